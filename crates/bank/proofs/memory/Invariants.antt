use Rattle.std.proofs.Common.{◌≡◌, replicate, None}
use Rattle.bank.specs.Cells.{cell}
use Rattle.bank.proofs.memory.Given as goal

-- so many cells have been made
abbrev pub invariant-loop : goal.invariant-loop
invariant-loop g l = l.cells.items ≡ replicate l.counter (cell 0 None)
