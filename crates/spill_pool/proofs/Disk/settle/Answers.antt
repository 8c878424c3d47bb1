use Rattle.std.proofs.Common.{sym, refl, ◌∙◌}
use Rattle.spill_pool.proofs.Placing.{settles_none, settles_spent, settles_kept}
use Rattle.spill_pool.proofs.Disk.settle.Goals as goal

pub returns-in_default-clause-law : goal.returns-in_default-clause-law
returns-in_default-clause-law g c = settles_none _ _ _ _ _ _ c.args.file c.in_default.ensures

pub returns-then-sweep-clause-law : goal.returns-then-sweep-clause-law
returns-then-sweep-clause-law g c = settles_spent _ _ _ _ _ _ c.args.file c.in-Some.newest.now c.in-Some.ensures c.sweep.ensures.store c.take.result (sym c.sweep.ensures.answer ∙ c.if-sweep.true) c.take.ensures.law

pub returns-clause-law : goal.returns-clause-law
returns-clause-law g c = settles_kept _ _ _ _ _ _ c.args.file c.in-Some.newest.now c.in-Some.ensures c.sweep.ensures.store c.rewrite_newest.result (sym c.sweep.ensures.answer ∙ c.if-sweep.false) refl c.rewrite_newest.ensures.law
