-- What the bank's functions do to the cells themselves. Assumes nothing.
use Rattle.std.specs.Prelude.{◌≡◌, ℕ, ◌+◌, ◌-◌, ◌<◌, Bool, true, false, cond, ◌&&◌, List, length, Some, None, Ok, Err, Option, Result, ◌==◌, nat_lt, slice_index_or, slice_set}
use Rattle.bank.specs.declared.Cell.{Cell}
use Rattle.bank.specs.declared.Queue.{Queue}

-- a queue with no cell
abbrev pub empty : Queue
empty = record { head = 0; tail = 0; len = 0 }

-- the first cell of q, if it has one
abbrev pub first : Queue → Option ℕ
first q = cond (q.len == 0) None (Some q.head)

-- the last cell of q, if it has one
abbrev pub last : Queue → Option ℕ
last q = cond (q.len == 0) None (Some q.tail)

-- the last cell of q, or i where it has none
abbrev pub last_or : Queue → ℕ → ℕ
last_or q i = cond (q.len == 0) i q.tail

-- the first cell of q, or i where it has none
abbrev pub first_or : Queue → ℕ → ℕ
first_or q i = cond (q.len == 0) i q.head

-- the queue with the cell i behind its last
abbrev pub longer : Queue → ℕ → Queue
longer q i = record { head = first_or q i; tail = i; len = q.len + 1 }

-- among n cells, the first cell of p can go behind the cell t, the last of q
abbrev pub linkable : ℕ → Queue → Queue → ℕ → Bool
linkable n p q t = nat_lt 0 p.len && (nat_lt p.head n && (nat_lt q.len n && nat_lt t n))

module _ {T : Type 0} where
  abbrev pub cell : ℕ → Option T → Cell T
  cell n x = record { next = n; item = x }

  -- the cell at i
  abbrev pub at : List (Cell T) → ℕ → Cell T
  at cs i = slice_index_or cs i (cell 0 None)

  -- the cell t points to the cell i
  abbrev pub linked : List (Cell T) → ℕ → ℕ → List (Cell T)
  linked cs t i = slice_set cs t (cell i (at cs t).item)

  -- the cell i holds x
  abbrev pub filled : List (Cell T) → ℕ → Option T → List (Cell T)
  filled cs i x = slice_set cs i (cell (at cs i).next x)

  -- the queue without its first cell
  abbrev pub shorter : List (Cell T) → Queue → Queue
  shorter cs p = record { head = (at cs p.head).next; tail = p.tail; len = p.len - 1 }

  -- the first cell of p went behind the last of q, if it could
  pub record Relinked (cs : List (Cell T)) (p q : Queue) (ds : List (Cell T)) (p' q' : Queue) (r : Bool) : Type 0 where
    pub did : linkable (length cs) p q (last_or q p.head) ≡ true → (r ≡ true) × (p' ≡ shorter cs p) × (q' ≡ longer q p.head) × (ds ≡ linked cs (last_or q p.head) p.head)
    pub refused : linkable (length cs) p q (last_or q p.head) ≡ false → (r ≡ false) × (p' ≡ p) × (q' ≡ q) × (ds ≡ cs)

  -- x went into the cell i, if that held nothing
  pub record Filled (cs : List (Cell T)) (i : ℕ) (x : T) (ds : List (Cell T)) (r : Result (Unit {0}) T) : Type 0 where
    pub did : i < length cs → (at cs i).item ≡ None → (r ≡ Ok tt) × (ds ≡ filled cs i (Some x))

  -- what the cell i held came out
  pub record Emptied (cs : List (Cell T)) (i : ℕ) (ds : List (Cell T)) (r : Option T) : Type 0 where
    pub did : i < length cs → (r ≡ (at cs i).item) × (ds ≡ filled cs i None)

  -- x went into the cell i in the place of what was there, which came out; where there is no cell, x comes back
  pub record Swapped (cs : List (Cell T)) (i : Option ℕ) (x : T) (ds : List (Cell T)) (r : Result T T) : Type 0 where
    pub did : (j : ℕ) → i ≡ Some j → j < length cs → (y : T) → (at cs j).item ≡ Some y → (r ≡ Ok y) × (ds ≡ filled cs j (Some x))
    pub refused : i ≡ None → (r ≡ Err x) × (ds ≡ cs)

  -- whatever the cells hold: x lies in the cell i, or it came back
  abbrev pub Safe : {U : Type 0} → List (Cell T) → ℕ → T → Result U T → Type 0
  Safe ds i x (Ok _) = (i < length ds) × ((at ds i).item ≡ Some x)
  Safe ds i x (Err y) = y ≡ x

  -- what the cell i holds, if there is one
  pub record Looked (cs : List (Cell T)) (i : Option ℕ) (r : Option T) : Type 0 where
    pub some : (j : ℕ) → i ≡ Some j → j < length cs → r ≡ (at cs j).item
    pub none : i ≡ None → r ≡ None
