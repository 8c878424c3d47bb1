use Rattle.std.proofs.Common.{◌≡◌, ◌-◌, length, arith}
use Rattle.bank.proofs.Clears.{cleared}
use Rattle.bank.proofs.clear.Goals as goal

pub returns : goal.returns
returns g c =
    let e : length c.loop-i.cells ≡ length c.args.cells.now = c.loop-i.auto.cells in
    let t : c.saturating_sub.result ≡ length c.loop-i.cells - 1 = omega arith in
    cleared c.loop-i.cells (λ j h. c.loop-i.invariant j (omega arith)) _ _ e (cc)
