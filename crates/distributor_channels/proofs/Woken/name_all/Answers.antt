use Rattle.std.proofs.Common.{arith, rules}
use Rattle.std.proofs.lemmas.List.{set-get_or}
use Rattle.distributor_channels.proofs.Naming.{some_none, some_more, names_all, names_last}
use Rattle.distributor_channels.proofs.Woken.name_all.Goals as goal

pub loop-place-init : goal.loop-place-init
loop-place-init c = record { names = some_none _ c.args.q.now c.args.self.now.list.now; same = search rules }

pub loop-place-preserved : goal.loop-place-preserved
loop-place-preserved c = record {
  names = some_more c.loop-place.place-index _ c.args.q.now c.args.self.now.list.now _ _ _ c.loop-place.invariant.names _ _ c.in-Some.entry c.in-Some.ensures.law;
  same = search rules;
}

pub returns-after-loop-place-clause-law : goal.returns-after-loop-place-clause-law
returns-after-loop-place-clause-law c = names_last c.loop-place.place-index _ c.args.q.now c.args.self.now.list.now _ _ _ c.loop-place.invariant.names _ (cc) (omega arith)

pub returns-in_default-clause-law : goal.returns-in_default-clause-law
returns-in_default-clause-law c =
    rw (set-get_or c.loop-place.place-items c.loop-place.place-index 0)
    (names_all c.loop-place.place-index _ c.args.q.now c.args.self.now.list.now _ _ _ c.loop-place.invariant.names _ _ _ (cc) c.in_default.ensures.law)
