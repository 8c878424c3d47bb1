-- The directory's remove; the words stay.
use Rattle.std.proofs.Common.{vec_items}
use Rattle.stores.specs.Stores.{block_val}
use Rattle.stores.proofs.block.BlockStoreStore.remove.Goals as goal

pub returns-clause-after : goal.returns-clause-after
returns-clause-after c = c.remove.ensures.after (block_val (vec_items c.args.self.now.memory.words))
