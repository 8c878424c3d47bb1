use Rattle.executor.proofs.Booking.{answered}
use Rattle.executor.proofs.Floor.drained.Goals as goal

pub returns-in-End-clause-law : goal.returns-in-End-clause-law
returns-in-End-clause-law c = (rw c.in-End.is at c.in-Ok.ensures.law) (answered _)
