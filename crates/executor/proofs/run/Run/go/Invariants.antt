use Rattle.executor.specs.Books.{Goes}
use Rattle.executor.proofs.run.Run.go.Given as goal

abbrev pub invariant-loop : goal.invariant-loop
invariant-loop g l = Goes l.initial.self l.self
