use Rattle.std.proofs.Common.{arith, rules}
use Rattle.distributor_channels.proofs.Naming.{drops_none, drops_more, drops_all}
use Rattle.distributor_channels.proofs.discard.Goals as goal

pub loop-init : goal.loop-init
loop-init g c = record { drops = drops_none _ c.args.q.now; same = search rules }

pub loop-preserved : goal.loop-preserved
loop-preserved g c = record {
  drops = drops_more c.loop.counter _ c.args.q.now _ _ _ _ _ (omega arith) c.loop.invariant.drops c.take.ensures.law;
  same = search rules;
}

pub returns-clause-law : goal.returns-clause-law
returns-clause-law g c = drops_all c.loop.counter _ c.args.q.now _ _ (omega arith) c.loop.invariant.drops
