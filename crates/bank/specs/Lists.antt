-- Lists by their two ends, and lists of lists by number. Assumes nothing.
use Rattle.std.specs.Prelude.{ℕ, ◌+◌, Bool, not, List, [], ◌∷◌, ◌++◌, length, Some, None, filter, Option, slice_index_or, slice_set}

module _ {T : Type 0} where
  -- the oldest element, at the front
  abbrev pub oldest : List T → Option T
  oldest [] = None
  oldest (x ∷ xs) = Some x

  -- all but the oldest
  abbrev pub rest : List T → List T
  rest [] = []
  rest (x ∷ xs) = xs

  -- the newest element, at the back
  abbrev pub newest : List T → Option T
  newest [] = None
  newest (x ∷ []) = Some x
  newest (x ∷ (y ∷ ys)) = newest (y ∷ ys)

  -- all but the newest
  abbrev pub older : List T → List T
  older [] = []
  older (x ∷ []) = []
  older (x ∷ (y ∷ ys)) = x ∷ older (y ∷ ys)

  -- x behind the newest
  abbrev pub push : List T → T → List T
  push xs x = xs ++ x ∷ []

  -- those of which f does not hold, in their order
  abbrev pub without : (T → Bool) → List T → List T
  without f xs = filter (λ x. not (f x)) xs

  -- the k-th list
  abbrev pub list : List (List T) → ℕ → List T
  list xss k = slice_index_or xss k []

  -- the k-th list becomes xs
  abbrev pub put : List (List T) → ℕ → List T → List (List T)
  put xss k xs = slice_set xss k xs

  -- how many elements there are in all
  abbrev pub total : List (List T) → ℕ
  total [] = 0
  total (xs ∷ xss) = length xs + total xss
