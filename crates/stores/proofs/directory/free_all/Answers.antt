-- One node more, and at the end.
use Rattle.std.proofs.Common.{◌≢◌, ◌<◌, length, vec_items, arith, get_or-set_other, get_or-set_same, below_more}
use Rattle.stores.proofs.Openings.{lent_back}
use Rattle.stores.proofs.directory.free_all.Goals as goal

pub loop-b-preserved : goal.loop-b-preserved
loop-b-preserved c =
    below_more _ _
    (λ k h. let ne : k ≢ c.loop-b.b = omega arith in rw get_or-set_other (c.loop-b.invariant k h))
    (let lt : c.loop-b.b < length c.loop-b.node-items = omega arith in rw get_or-set_same c.free.ensures)

pub returns-clause-free : goal.returns-clause-free
returns-clause-free c b l =
    rw (lent_back c.loop-b.node-items (vec_items c.args.nodes.now) c.args.nodes.now.len (omega (arith, c.loop-b.auto.node-items, c.deref_mut-node-items.ensures.len)) c.args.nodes.now.ok.0)
    (c.loop-b.invariant b (omega (arith, c.loop-b-test.false, c.deref_mut-node-items.ensures.len)))
