use Rattle.executor.specs.Books.{Emptied}
use Rattle.executor.proofs.Floor.settle.Given as goal

abbrev pub invariant-loop-room : goal.invariant-loop-room
invariant-loop-room l = Emptied l.room l.notices l.initial.self.cursors l.initial.self l.self
