use Rattle.std.proofs.Common.{◌≡◌, arith}
use Rattle.executor.proofs.Booking.{emptied_more, delivered}
use Rattle.executor.proofs.Floor.settle.Goals as goal

pub loop-room-preserved : goal.loop-room-preserved
loop-room-preserved c =
    emptied_more c.loop-room.room c.args.notices.now c.args.self.now.cursors c.args.self.now c.loop-room.self c.drained.new.self c.in_ok-drained.field-0
    c.loop-room.invariant c.in_ok-drained.ensures.law c.drained.ensures.places c.if-not-branch.false

pub returns : goal.returns
returns c = λ _.
    let e : c.loop-room.room ≡ c.args.rooms = omega arith in
    delivered c.args.rooms c.args.feeds c.args.notices.now c.args.self.now c.loop-room.self (rw e at c.loop-room.invariant) (c.all_at_end.ensures.0 c.if-not-all_at_end.false).1
