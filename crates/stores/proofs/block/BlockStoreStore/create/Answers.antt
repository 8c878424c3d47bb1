-- The directory's create; no node changes.
use Rattle.std.proofs.Common.{length, vec_items, ap}
use Rattle.stores.specs.Stores.{block_val, block_view}
use Rattle.stores.proofs.block.BlockStoreStore.create.Goals as goal

pub returns : goal.returns
returns c =
    let s = c.args.self.now in
    let v = block_val (vec_items s.memory.words) in
    let e = c.create.ensures in
    record { lawful = e.lawful v; after = e.after v; exact = record { reply = e.reply v (block_view s).space; load = e.load v; size = ap length e.nodes } }
