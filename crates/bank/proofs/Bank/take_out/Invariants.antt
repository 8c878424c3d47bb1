use Rattle.bank.specs.Banks.{view, SameCells}
use Rattle.bank.specs.Turning.{Sifts}
use Rattle.bank.proofs.Bank.take_out.Given as goal

abbrev pub invariant-loop : goal.invariant-loop
invariant-loop g l = record {
  sifts : Sifts (g.P.Test.passes l.p) l.counter (view l.initial.self) l.initial.q l.initial.out (view l.self) l.q l.out;
  same : SameCells l.initial.self l.self;
}
