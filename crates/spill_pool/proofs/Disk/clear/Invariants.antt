use Rattle.bank.specs.Banks.{view, SameCells}
use Rattle.spill_pool.specs.Calls.{ClearsSome}
use Rattle.spill_pool.proofs.Disk.clear.Given as goal

abbrev pub invariant-loop : goal.invariant-loop
invariant-loop g l = record {
  law : ClearsSome l.counter (view l.initial.self.places) l.initial.files (g.S.Store.files l.initial.self.store) (view l.self.places) l.files (g.S.Store.files l.self.store);
  same : SameCells l.initial.self.places l.self.places;
}
