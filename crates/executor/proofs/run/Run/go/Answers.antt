use Rattle.executor.proofs.Booking.{goes_more}
use Rattle.executor.proofs.run.Run.go.Goals as goal

pub loop-preserved : goal.loop-preserved
loop-preserved g c = goes_more c.args.self.now c.loop.self c.turn.new.self c.loop.invariant c.in_ok-turn.ensures
