use Rattle.std.proofs.Common.{sym, refl, ◌∙◌}
use Rattle.spill_pool.proofs.Placing.{files_spent, files_kept}
use Rattle.spill_pool.proofs.Disk.file_away.Goals as goal

pub returns-then-sweep-clause-law : goal.returns-then-sweep-clause-law
returns-then-sweep-clause-law g c = files_spent _ _ _ _ _ _ c.args.file (sym c.sweep.ensures.answer ∙ c.if-sweep.true) c.sweep.ensures.store refl refl

pub returns-clause-law : goal.returns-clause-law
returns-clause-law g c = files_kept _ _ _ _ _ _ c.args.file c.add.result (sym c.sweep.ensures.answer ∙ c.if-sweep.false) c.sweep.ensures.store c.add.ensures.law
