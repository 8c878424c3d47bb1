use Rattle.std.proofs.Common.{◌≡◌, take, drop, All, IfOk}
use Rattle.resources.specs.History.{Fits}
use Rattle.resources.proofs.Histories.{Running, Ranging}
use Rattle.resources.proofs.runs.run.Given as goal

abbrev pub invariant-loop-i : goal.invariant-loop-i
invariant-loop-i g l = Ranging g.S.Store.steps l.initial.store l.calls l.answers l.store l.i
    × Running (g.S.Store.files l.initial.store) (g.S.Store.files l.store) l.calls l.answers l.i
    × (drop l.i l.answers ≡ drop l.i l.initial.answers)
    × All (λ r. IfOk r Fits) (take l.i l.answers)
