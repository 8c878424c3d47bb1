use Rattle.std.proofs.Common.{◌≡◌, ℕ, ◌+◌, ◌<◌, None}
use Rattle.bank.specs.Cells.{at, cell}
use Rattle.bank.proofs.clear.Given as goal

-- the cells passed stand in a row
abbrev pub invariant-loop-i : goal.invariant-loop-i
invariant-loop-i g l = (j : ℕ) → j < l.i → at l.cells j ≡ cell (j + 1) None
