use Rattle.spill_pool.proofs.Placing.{removes_oldest, removes_none}
use Rattle.spill_pool.proofs.Disk.remove_oldest.Goals as goal

pub returns-in-Some-clause-law : goal.returns-in-Some-clause-law
returns-in-Some-clause-law g c = removes_oldest _ _ _ _ _ _ c.in-Some.file c.in-Some.ensures.law c.remove.ensures.after

pub returns-in_default-clause-law : goal.returns-in_default-clause-law
returns-in_default-clause-law g c = removes_none _ _ _ _ _ _ c.in_default.ensures.law
