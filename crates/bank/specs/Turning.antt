-- Taking elements out, turn by turn. Assumes nothing.
use Rattle.std.specs.Prelude.{◌≡◌, ℕ, Bool, cond, List, [], ◌∷◌, ◌++◌, take, drop, filter, slice_set}
use Rattle.bank.specs.declared.Queue.{Queue}
use Rattle.bank.specs.Lists.{without, list, put}
use Rattle.bank.specs.Banks.{Mem, Is, freed, Keeps}

module _ {T : Type 0} (f : T → Bool) where
  -- the oldest goes, and comes back at the end unless it passes
  abbrev pub turned : List T → List T
  turned [] = []
  turned (x ∷ xs) = xs ++ cond (f x) [] (x ∷ [])

  -- the oldest, if it passes
  abbrev pub passing : List T → List T
  passing [] = []
  passing (x ∷ xs) = cond (f x) (x ∷ []) []

  -- one turn of the k-th queue q, with o for what passes
  abbrev pub Turns : Mem T → Queue → Queue → Mem T → Queue → Queue → Type 0
  Turns m q o m' q' o' = (qs : List Queue) (xss : List (List T)) (os : List T) (k : ℕ) → Keeps m (o ∷ qs) (os ∷ xss) → Is qs k q →
      Keeps m' (o' ∷ slice_set qs k q') ((os ++ passing (list xss k)) ∷ put xss k (turned (list xss k))) × (freed m' ≡ freed m)

  -- n turns
  abbrev pub Sifts : ℕ → Mem T → Queue → Queue → Mem T → Queue → Queue → Type 0
  Sifts n m q o m' q' o' = (qs : List Queue) (xss : List (List T)) (os : List T) (k : ℕ) → Keeps m (o ∷ qs) (os ∷ xss) → Is qs k q →
      Keeps m' (o' ∷ slice_set qs k q') ((os ++ filter f (take n (list xss k))) ∷ put xss k (drop n (list xss k) ++ without f (take n (list xss k)))) × (freed m' ≡ freed m)
