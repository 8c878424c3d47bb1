use Rattle.bank.specs.Banks.{view, SameCells}
use Rattle.distributor_channels.specs.Naming.{Drops}
use Rattle.distributor_channels.proofs.discard.Given as goal

abbrev pub invariant-loop : goal.invariant-loop
invariant-loop g l = record {
  drops : Drops l.counter (view l.initial.elements) l.initial.q (view l.elements) l.q;
  same : SameCells l.initial.elements l.elements;
}
