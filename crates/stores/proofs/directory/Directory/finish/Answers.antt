-- No open file, or only the mark changes.
use Rattle.std.proofs.Common.{refl, arith}
use Rattle.std.proofs.lemmas.Result.{err_from_is_err_and}
use Rattle.stores.proofs.Entries.{finish_order}
use Rattle.stores.proofs.Replies.{finishes, no_finish}
use Rattle.stores.proofs.directory.Directory.finish.Goals as goal

pub returns-in_err-i : goal.returns-in_err-i
returns-in_err-i c =
    let p = err_from_is_err_and c.from_residual.result c.from_residual.ensures.1 in
    rw (p.1, p.2) (no_finish c.args.self.now c.args.file _ c.in_err-i.ensures)

pub invariant_of-self : goal.invariant_of-self
invariant_of-self c = record { order = finish_order c.args.self.now.order _ (omega (arith, c.in_ok-i.ensures.0)) (omega (arith, c.in_ok-i.ensures.0, c.in_ok-i.ensures.1)) }

pub returns : goal.returns
returns c = finishes c.args.self.now _ c.in_ok-i.i c.args.file c.in_ok-i.ensures refl refl refl refl
