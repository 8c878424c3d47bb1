-- What cells represent. Every cell has two labels that no code holds: the chain that owns it, and its place there. Assumes nothing.
use Rattle.std.specs.Prelude.{◌≡◌, ℕ, suc, ◌<◌, ◌≤◌, List, [], ◌∷◌, length, Option, slice_index_or}
use Rattle.bank.specs.declared.Cell.{Cell}
use Rattle.bank.specs.declared.Queue.{Queue}
use Rattle.bank.specs.Lists.{list, total}
use Rattle.bank.specs.Cells.{at, empty}

module _ {T : Type 0} (own pos : ℕ → ℕ) (cs : List (Cell T)) (k : ℕ) where
  -- the cell i is of the chain k, at the place p or later, and holds x
  pub record Node (p i : ℕ) (x : Option T) : Type 0 where
    pub within : i < length cs
    pub owner : own i ≡ k
    pub late : p ≤ pos i
    pub holds : (at cs i).item ≡ x

  -- the chain k from the cell i to the cell t holds xs, at places from p on that rise
  abbrev pub Chain : ℕ → ℕ → List (Option T) → ℕ → Type 0
  Chain p i [] t = Unit {0}
  Chain p i (x ∷ []) t = Node p i x × (i ≡ t)
  Chain p i (x ∷ (y ∷ ys)) t = Node p i x × Chain (suc (pos i)) (at cs i).next (y ∷ ys) t

  -- the chain k is q, and holds xs
  abbrev pub Holds : Queue → List (Option T) → Type 0
  Holds q xs = (q.len ≡ length xs) × Chain 0 q.head xs q.tail

-- The j-th of the chains ps holds the j-th of the lists yss, and every cell is in one of them.
pub record Chains {T : Type 0} (cs : List (Cell T)) (ps : List Queue) (yss : List (List (Option T))) : Type 0 where
  pub own : ℕ → ℕ
  pub pos : ℕ → ℕ
  pub each : (j : ℕ) → j < length ps → Holds own pos cs j (slice_index_or ps j empty) (list yss j)
  pub same : length ps ≡ length yss
  pub count : total yss ≡ length cs
