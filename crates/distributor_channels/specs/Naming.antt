-- Naming waiting entries, and discarding elements. Assumes nothing.
use Rattle.std.specs.Prelude.{◌≡◌, ℕ, ◌≤◌, List, [], ◌++◌, length, take, drop, slice_set}
use Rattle.bank.specs.declared.Queue.{Queue}
use Rattle.bank.specs.Lists.{list, put}
use Rattle.bank.specs.Banks.{Mem, Is, Keeps}
use Rattle.distributor_channels.specs.declared.Entry.{Entry}
use Rattle.distributor_channels.specs.Meaning.{wakers, onto}

-- i entries have left and are named
abbrev pub NamesSome : ℕ → Mem Entry → Queue → List ℕ → Mem Entry → Queue → List ℕ → Type 0
NamesSome i m q w m' q' w' = (qs : List Queue) (xss : List (List Entry)) (k : ℕ) → Keeps m qs xss → Is qs k q → length (list xss k) ≤ length w →
    (i ≤ length (list xss k)) × Keeps m' (slice_set qs k q') (put xss k (drop i (list xss k))) × (w' ≡ wakers (take i (list xss k)) ++ drop i w)

-- all entries leave, in order, and are named at the front of the woken list; r is their number
abbrev pub Names : Mem Entry → Queue → List ℕ → Mem Entry → Queue → List ℕ → ℕ → Type 0
Names m q w m' q' w' r = (qs : List Queue) (xss : List (List Entry)) (k : ℕ) → Keeps m qs xss → Is qs k q → length (list xss k) ≤ length w →
    Keeps m' (slice_set qs k q') (put xss k []) × (w' ≡ onto (wakers (list xss k)) w) × (r ≡ length (list xss k))

module _ {T : Type 0} where
  -- i elements have left
  abbrev pub Drops : ℕ → Mem T → Queue → Mem T → Queue → Type 0
  Drops i m q m' q' = (qs : List Queue) (xss : List (List T)) (k : ℕ) → Keeps m qs xss → Is qs k q → Keeps m' (slice_set qs k q') (put xss k (drop i (list xss k)))

  -- all elements have left
  abbrev pub Empties : Mem T → Queue → Mem T → Queue → Type 0
  Empties m q m' q' = (qs : List Queue) (xss : List (List T)) (k : ℕ) → Keeps m qs xss → Is qs k q → Keeps m' (slice_set qs k q') (put xss k [])
