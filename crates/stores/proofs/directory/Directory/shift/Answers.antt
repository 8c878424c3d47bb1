-- The node that goes is the last of its chain; what a directory keeps stays.
use Rattle.std.proofs.Common.{vec_items, ap, arith}
use Rattle.stores.specs.declared.node.Node.{Node}
use Rattle.stores.proofs.Chaining.{node_read}
use Rattle.stores.proofs.Shifting.{moves_of, shift_order_is, len_most}
use Rattle.stores.proofs.directory.Directory.shift.Goals as goal

pub overflow_add-self : goal.overflow_add-self
overflow_add-self c =
    let d = c.args.self.now in
    omega (arith, d.order.small, len_most c.args.to d.order.sound (omega (arith, d.order.table, d.order.few, c.requires.1)))

pub invariant_of-self : goal.invariant_of-self
invariant_of-self c =
    let d = c.args.self.now in
    let p = c.requires in
    let mv = moves_of d.order c.args.from c.args.to p.0 p.1 p.2 p.3 in
    record {
      order = shift_order_is d.order c.args.from c.args.to c.args.start c.args.length mv p.0 p.1 p.4 c.links-back.result.0 c.links-back.result.1 c.index.result.now.back c.links-back.ensures.0 c.links-back.ensures.1
          (ap (λ (x : Node). x.back) (node_read (vec_items c.args.self.now.nodes) (mv.sound.lasts c.args.from mv.source p.3).0 c.index.ensures));
    }
