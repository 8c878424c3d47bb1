use Rattle.std.proofs.Common.{refl, ◌∙◌, arith}
use Rattle.spill_pool.proofs.Placing.{clears_none, clears_more, clears_all}
use Rattle.spill_pool.proofs.Disk.clear.Goals as goal

pub loop-init : goal.loop-init
loop-init g c = record { law = clears_none _ _ _; same = (refl, refl) }

pub loop-preserved : goal.loop-preserved
loop-preserved g c = record {
  law = clears_more c.loop.counter _ c.args.files.now _ _ _ _ _ _ _ (omega arith) c.loop.invariant.law c.remove_oldest.ensures.law;
  same = (c.remove_oldest.ensures.same.0 ∙ c.loop.invariant.same.0, c.remove_oldest.ensures.same.1 ∙ c.loop.invariant.same.1);
}

pub returns-clause-law : goal.returns-clause-law
returns-clause-law g c = clears_all c.loop.counter _ c.args.files.now _ _ _ _ (omega arith) c.loop.invariant.law
