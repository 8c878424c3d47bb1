-- One batch more went.
use Rattle.std.proofs.Common.{◌∙◌, arith}
use Rattle.stores.proofs.Entries.{cleared_more_is}
use Rattle.stores.proofs.directory.Directory.clear.Goals as goal

pub loop-self-preserved : goal.loop-self-preserved
loop-self-preserved c =
    let d = c.loop-self.self in
    let v = c.loop-self.invariant in
    let r = c.shift.ensures in (
      cleared_more_is c.args.i v.0 d.order c.requires.0 (omega (arith, c.requires.1, v.1)) c.loop-self-test.true _ _ r.nodes r.entries,
      r.rest.0 ∙ v.1,
      r.rest.1 ∙ v.2,
    )
