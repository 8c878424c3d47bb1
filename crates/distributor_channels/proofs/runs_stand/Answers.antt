use Rattle.std.proofs.Common.{refl}
use Rattle.distributor_channels.specs.Steps.{send_step, receive_step, close_sender_step, close_receiver_step}
use Rattle.distributor_channels.proofs.runs_stand.Goals as goal

pub returns : goal.returns
unfolding send_step receive_step close_sender_step close_receiver_step
returns c = record {
  gate = λ x y z u. (refl, refl, refl, refl, refl, refl, refl, refl);
  closings = (refl, refl, refl, refl);
  drained = λ x y u. (refl, refl, refl, refl);
  own = λ x y u v. refl;
  nowhere = λ w x. (refl, refl);
}
