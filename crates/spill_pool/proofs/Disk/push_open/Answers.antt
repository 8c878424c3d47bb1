use Rattle.spill_pool.proofs.Spilling.{pushes_open}
use Rattle.spill_pool.proofs.Disk.push_open.Goals as goal

pub returns-clause-law : goal.returns-clause-law
returns-clause-law g c = pushes_open c.args.setup _ c.args.batch.now.words.now _ _ _ _ _ c.args.kept _ _ _ _ _ c.write-written.result c.record-file.ensures c.write-written.ensures.by c.kept.ensures c.settle.ensures.law
