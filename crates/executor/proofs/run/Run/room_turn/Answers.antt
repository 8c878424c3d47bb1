use Rattle.std.proofs.Common.{refl}
use Rattle.executor.proofs.Booking.{answered}
use Rattle.executor.proofs.run.Run.room_turn.Goals as goal

pub returns-in_ok-wake-in-Element : goal.returns-in_ok-wake-in-Element
returns-in_ok-wake-in-Element g c = (refl, λ n v sent s. (sent, (c.in_ok-id.ensures.law (answered _) n v _ sent s).0))

pub returns-in_ok-println-in-Wait : goal.returns-in_ok-println-in-Wait
returns-in_ok-println-in-Wait g c = (refl, λ n v sent s. (sent, (c.in_ok-id.ensures.law (answered _) n v _ sent s).0))

pub returns-in_ok-println-in-End : goal.returns-in_ok-println-in-End
returns-in_ok-println-in-End g c = (refl, λ n v sent s. (sent, (c.in_ok-id.ensures.law (answered _) n v _ sent s).0))
