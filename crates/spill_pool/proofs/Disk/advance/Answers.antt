use Rattle.std.proofs.Common.{sym, refl, ◌∙◌}
use Rattle.spill_pool.proofs.Placing.{advances_spent, advances_kept}
use Rattle.spill_pool.proofs.Disk.advance.Goals as goal

pub returns-then-sweep-clause-law : goal.returns-then-sweep-clause-law
returns-then-sweep-clause-law g c = advances_spent _ _ _ _ _ _ c.args.file c.take.result (sym c.sweep.ensures.answer ∙ c.if-sweep.true) c.sweep.ensures.store c.take.ensures.law

pub returns-clause-law : goal.returns-clause-law
returns-clause-law g c = advances_kept _ _ _ _ _ _ c.args.file c.rewrite_oldest.result (sym c.sweep.ensures.answer ∙ c.if-sweep.false) c.sweep.ensures.store refl c.rewrite_oldest.ensures.law
