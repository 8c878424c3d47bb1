use Rattle.stores.proofs.Openings.{Numbered}
use Rattle.stores.proofs.directory.blank_table.Given as goal

-- numbered so far, and all empty
abbrev pub invariant-loop-i : goal.invariant-loop-i
invariant-loop-i l = Numbered l.entry-items l.i
