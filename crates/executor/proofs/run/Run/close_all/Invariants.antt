use Rattle.executor.specs.Books.{Goes}
use Rattle.executor.proofs.run.Run.close_all.Given as goal

abbrev pub invariant-loop-room : goal.invariant-loop-room
invariant-loop-room g l = Goes l.initial.self l.self
