use Rattle.std.proofs.Common.{◌∷◌, ◌∙◌}
use Rattle.spill_pool.proofs.Placing.{first}
use Rattle.spill_pool.proofs.SpillPool.oldest.Goals as goal

pub returns : goal.returns
returns g c w fs o m rep = c.copied.ensures ∙ c.oldest.ensures (c.args.self.now.files ∷ o.queues) (m.files ∷ o.lists) 0 rep.files (first c.args.self.now.files o.queues)
