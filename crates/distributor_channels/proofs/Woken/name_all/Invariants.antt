use Rattle.bank.specs.Banks.{view, SameCells}
use Rattle.distributor_channels.specs.Naming.{NamesSome}
use Rattle.distributor_channels.proofs.Woken.name_all.Given as goal

-- as many entries have left as places are passed
abbrev pub invariant-loop-place : goal.invariant-loop-place
invariant-loop-place l = record {
  names : NamesSome l.place-index (view l.initial.entries) l.initial.q l.initial.place-items (view l.entries) l.q l.place-items;
  same : SameCells l.initial.entries l.entries;
}
