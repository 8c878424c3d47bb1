-- What callers of a bank see: a memory keeps lists in queues. Assumes nothing.
use Rattle.std.specs.Prelude.{◌≡◌, ℕ, zero, suc, ◌+◌, ◌<◌, Bool, true, ◌≢◌, List, [], ◌∷◌, map, length, replicate, is_some, Some, None, Ok, Err, filter, Option, Result, slice_index_or, slice_set}
use Rattle.bank.specs.declared.Cell.{Cell}
use Rattle.bank.specs.declared.Queue.{Queue}
use Rattle.bank.specs.declared.Bank.{Bank}
use Rattle.bank.specs.Lists.{oldest, rest, newest, push, without, list, put, total}
use Rattle.bank.specs.Cells.{at, empty}
use Rattle.bank.specs.Chains.{Chains}

-- q is the k-th of the queues
abbrev pub Is : List Queue → ℕ → Queue → Type 0
Is qs k q = (k < length qs) × (slice_index_or qs k empty ≡ q)

-- a bank without the loan: the free cells, and all cells
pub record Mem (T : Type 0) : Type 0 where
  pub free : Queue
  pub cells : List (Cell T)

module _ {T : Type 0} where
  abbrev pub mem : Queue → List (Cell T) → Mem T
  mem f cs = record { free = f; cells = cs }

  abbrev pub view : Bank T → Mem T
  view b = mem b.free b.cells.now

  -- how many cells there are
  abbrev pub size : Mem T → ℕ
  size m = length m.cells

  -- the same memory, of the same length
  abbrev pub SameCells : Bank T → Bank T → Type 0
  SameCells b b' = (b'.cells.ghost_name ≡ b.cells.ghost_name) × (size (view b') ≡ size (view b))

  -- how many of them are free
  abbrev pub freed : Mem T → ℕ
  freed m = m.free.len

  -- the memory is in good order: the queues qs hold the lists xss, the free cells hold nothing, and there are no others
  unfoldable pub Keeps : Mem T → List Queue → List (List T) → Type 0
  Keeps m qs xss = Chains m.cells (m.free ∷ qs) (replicate m.free.len None ∷ map (map Some) xss)

  -- the elements in n cells from the cell i on
  abbrev pub before : Option T → List T → List T
  before None xs = xs
  before (Some x) xs = x ∷ xs

  abbrev pub walk : List (Cell T) → ℕ → ℕ → List T
  walk cs zero i = []
  walk cs (suc n) i = before (at cs i).item (walk cs n (at cs i).next)

  -- the lists, read off the cells
  unfoldable pub lists : Mem T → List Queue → List (List T)
  lists m qs = map (λ q. walk m.cells q.len q.head) qs

  -- In a memory in good order, whatever queues it has, of which q is the k-th:
  abbrev pub Ordered : Mem T → Queue → (List Queue → List (List T) → ℕ → Type 0) → Type 0
  Ordered m q P = (qs : List Queue) (xss : List (List T)) (k : ℕ) → Keeps m qs xss → Is qs k q → P qs xss k

  -- a bank over n cells, all free
  abbrev pub Makes : ℕ → Mem T → Type 0
  Makes n m = (size m ≡ n) × (freed m ≡ n) × ((k : ℕ) → Keeps m (replicate k empty) (replicate k []))

  -- the free cells, and the elements of all queues, are all cells; and the lists are those that are read off
  abbrev pub Counts : Mem T → ℕ → Type 0
  Counts m r = (r ≡ freed m) × ((qs : List Queue) (xss : List (List T)) → Keeps m qs xss → (r + total xss ≡ size m) × (lists m qs ≡ xss))

  -- the length of a queue
  abbrev pub Measures : Mem T → Queue → ℕ → Type 0
  Measures m q r = (r ≡ q.len) × Ordered m q (λ qs xss k. r ≡ length (list xss k))

  -- x is added at the back of q, or comes back where no cell is free
  abbrev pub Adds : Mem T → Queue → T → Mem T → Queue → Result (Unit {0}) T → Type 0
  Adds m q x m' q' r = Ordered m q (λ qs xss k.
      (0 < freed m → (r ≡ Ok tt) × Keeps m' (slice_set qs k q') (put xss k (push (list xss k) x)) × (freed m' + 1 ≡ freed m))
      × (freed m ≡ 0 → (r ≡ Err x) × (m' ≡ m) × (q' ≡ q)))

  -- the oldest of q is taken, or nothing
  abbrev pub Takes : Mem T → Queue → Mem T → Queue → Option T → Type 0
  Takes m q m' q' r = Ordered m q (λ qs xss k.
      (r ≡ oldest (list xss k)) × Keeps m' (slice_set qs k q') (put xss k (rest (list xss k)))
      × (list xss k ≡ [] → (m' ≡ m) × (q' ≡ q)) × (is_some r ≡ true → freed m' ≡ freed m + 1))

  -- the oldest of q is looked at, or the newest
  abbrev pub ReadsOldest : Mem T → Queue → Option T → Type 0
  ReadsOldest m q r = Ordered m q (λ qs xss k. r ≡ oldest (list xss k))

  abbrev pub ReadsNewest : Mem T → Queue → Option T → Type 0
  ReadsNewest m q r = Ordered m q (λ qs xss k. r ≡ newest (list xss k))

  -- x takes the place of an element, which comes out; where there is none, x comes back
  abbrev pub Rewrites : (List T → Option T) → (List T → List T) → Mem T → Queue → T → Mem T → Result T T → Type 0
  Rewrites which after m q x m' r = Ordered m q (λ qs xss k.
      ((y : T) → which (list xss k) ≡ Some y → (r ≡ Ok y) × Keeps m' qs (put xss k (after (list xss k))) × (freed m' ≡ freed m))
      × (which (list xss k) ≡ None → (r ≡ Err x) × (m' ≡ m)))

  -- the oldest of p goes to the back of q, if there is one
  abbrev pub moved : List (List T) → ℕ → ℕ → Option T → List (List T)
  moved xss k j None = xss
  moved xss k j (Some x) = put (put xss k (rest (list xss k))) j (push (list xss j) x)

  abbrev pub Moves : Mem T → Queue → Queue → Mem T → Queue → Queue → Bool → Type 0
  Moves m p q m' p' q' r = (qs : List Queue) (xss : List (List T)) (k j : ℕ) → Keeps m qs xss → Is qs k p → Is qs j q → k ≢ j →
      (r ≡ is_some (oldest (list xss k))) × Keeps m' (slice_set (slice_set qs k p') j q') (moved xss k j (oldest (list xss k))) × (freed m' ≡ freed m)

  -- those of q that pass are taken out, and stand in order in one more queue; the others keep their order
  abbrev pub TakesOut : (T → Bool) → Mem T → Queue → Mem T → Queue → Queue → Type 0
  TakesOut f m q m' q' r = Ordered m q (λ qs xss k.
      Keeps m' (r ∷ slice_set qs k q') (filter f (list xss k) ∷ put xss k (without f (list xss k))) × (freed m' ≡ freed m))
