use Rattle.std.proofs.Common.{arith, rules}
use Rattle.bank.specs.Banks.{view}
use Rattle.bank.proofs.Turns.{sift_none, sift_more, sifted}
use Rattle.bank.proofs.Bank.take_out.Goals as goal

pub loop-init : goal.loop-init
loop-init g c = record { sifts = sift_none (g.P.Test.passes c.args.p.now) (view c.args.self.now) c.args.q.now c.new-out.result; same = search rules }

pub loop-preserved : goal.loop-preserved
loop-preserved g c = record {
  sifts = sift_more (g.P.Test.passes c.args.p.now) (view c.args.self.now) c.args.q.now c.new-out.result c.loop.counter _ _ _ _ _ _ (omega arith) c.loop.invariant.sifts c.turn.ensures.law;
  same = search rules;
}

pub returns-clause-law : goal.returns-clause-law
returns-clause-law g c = sifted (g.P.Test.passes c.args.p.now) (view c.args.self.now) c.args.q.now c.new-out.result c.loop.counter _ _ _ c.new-out.ensures (omega arith) c.loop.invariant.sifts
