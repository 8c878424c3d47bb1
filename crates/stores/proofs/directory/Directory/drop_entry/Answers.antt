-- The table closes up; all chains stay.
use Rattle.stores.proofs.Entries.{drop_order_is, closes_up}
use Rattle.stores.proofs.directory.Directory.drop_entry.Goals as goal

pub invariant_of-self : goal.invariant_of-self
invariant_of-self c =
    let d = c.args.self.now in
    let e = closes_up d.order c.args.i c.requires.0.0 c.requires.0.1 _ c.rotate_left.ensures.after _ c.spare.ensures c.renew-number.ensures.0 in
    record { order = drop_order_is d.order c.args.i c.requires.0.0 c.requires.0.1 c.requires.1 _ _ e c.renew-number.ensures.1 }

pub returns-clause-entries : goal.returns-clause-entries
returns-clause-entries c = closes_up c.args.self.now.order c.args.i c.requires.0.0 c.requires.0.1 _ c.rotate_left.ensures.after _ c.spare.ensures c.renew-number.ensures.0
