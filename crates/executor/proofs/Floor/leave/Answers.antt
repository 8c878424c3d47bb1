use Rattle.executor.proofs.Booking.{sound_left}
use Rattle.executor.proofs.Floor.leave.Goals as goal

pub returns : goal.returns
returns c = λ n v notices sent s. sound_left s c.args.room _ _ c.close_sender.result c.close_sender.ensures.law c.close_sender.ensures.history
