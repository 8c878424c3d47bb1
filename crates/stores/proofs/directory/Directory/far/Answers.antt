-- The jumps stay in the chain, and do not rise.
use Rattle.std.proofs.Common.{vec_items}
use Rattle.stores.proofs.Fars.{near_sub, hop_sub}
use Rattle.stores.proofs.directory.Directory.far.Goals as goal

pub overflow_sub-near : goal.overflow_sub-near
overflow_sub-near c = near_sub (vec_items c.args.self.now.nodes) c.args.self.now.order.sound.jumps c.requires c.index-near.ensures c.index-hop.ensures

pub overflow_sub-hop : goal.overflow_sub-hop
overflow_sub-hop c = hop_sub (vec_items c.args.self.now.nodes) c.args.self.now.order.sound.jumps c.requires c.index-near.ensures c.index-hop.ensures c.index-leap.ensures
