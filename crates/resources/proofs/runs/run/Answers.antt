-- No call yet, and one call more.
use Rattle.std.proofs.Common.{◌<◌, length, refl, arith, length-take, IfOk}
use Rattle.std.proofs.lemmas.List.{get_or-take}
use Rattle.resources.specs.History.{none, Fits}
use Rattle.resources.proofs.Histories.{running_more, ranging_more, rest_more, fit_more}
use Rattle.resources.proofs.runs.run.Goals as goal

pub loop-i-init : goal.loop-i-init
loop-i-init g c = (none, (tt, λ n. refl), refl, λ k d h. absurd (omega arith))

pub loop-i-preserved : goal.loop-i-preserved
loop-i-preserved g c =
    let files = g.S.Store.files in
    let cs = c.args.calls.now in
    let i = c.loop-i.i in
    let short = length-take c.min-n.result cs in
    let li : i < c.min-n.result = omega (arith, c.loop-i-test.true, short, c.min-n.ensures) in
    let lc : i < length cs = omega (arith, li, c.min-n.ensures) in
    let lr : i < length c.loop-i.answers = omega (arith, li, c.min-n.ensures, c.loop-i.auto.answers) in
    let made = rw (get_or-take c.min-n.result cs i _ li) at c.perform.ensures in (
      ranging_more g.S.Store.steps c.args.store.now c.loop-i.store c.perform.new.store cs c.loop-i.answers i _ c.perform.result lc lr c.loop-i.invariant.0 made.asked,
      running_more (files c.args.store.now) (files c.loop-i.store) (files c.perform.new.store) cs c.loop-i.answers i _ c.perform.result lc lr c.loop-i.invariant.1 made.happens,
      rest_more c.args.answers.now c.loop-i.answers i c.perform.result c.loop-i.invariant.2,
      fit_more (λ r. IfOk r Fits) c.loop-i.answers i c.perform.result lr c.loop-i.invariant.3 c.perform.ensures.fits,
    )
