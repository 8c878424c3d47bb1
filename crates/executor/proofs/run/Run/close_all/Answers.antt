use Rattle.executor.proofs.Booking.{onward_more}
use Rattle.executor.proofs.run.Run.close_all.Goals as goal

pub loop-room-preserved : goal.loop-room-preserved
loop-room-preserved g c = (
  c.loop-room.invariant.0,
  onward_more c.args.self.now.notices.now c.args.self.now.floor c.loop-room.self.floor c.leave.new.self c.loop-room.invariant.1 (λ n v sent s. (sent, c.leave.ensures n v _ sent s)),
)
