use Rattle.std.proofs.Common.{refl}
use Rattle.spill_pool.specs.Steps.{write, push_step, poll_step}
use Rattle.spill_pool.proofs.runs_stand.Goals as goal

pub returns : goal.returns
unfolding write push_step poll_step
returns c = record {
  rotation = λ a b. (refl, refl, refl, refl);
  failed_append = λ a b c. (refl, refl, refl, refl, refl, refl);
}
