-- There was no such file, or it goes.
use Rattle.stores.proofs.Replies.{removes, no_remove}
use Rattle.stores.proofs.directory.Directory.remove.Goals as goal

pub returns-in_default : goal.returns-in_default
returns-in_default c = no_remove c.args.self.now c.args.file c.in_default.ensures

pub returns : goal.returns
returns c =
    let k = c.clear.ensures in
    let e = c.drop_entry.ensures in
    removes c.args.self.now c.clear.new.self c.drop_entry.new.self c.in-Some.i c.args.file c.in-Some.ensures k.cleared k.empty k.rest.0 _ e.rest.1 e.entries e.rest.0
