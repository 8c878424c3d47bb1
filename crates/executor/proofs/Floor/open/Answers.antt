use Rattle.std.proofs.Common.{[]}
use Rattle.distributor_channels.specs.Calls.{Others}
use Rattle.executor.proofs.Booking.{sound_new, zeros}
use Rattle.executor.proofs.Floor.open.Goals as goal

pub returns : goal.returns
returns c = λ notices.
    let o : Others _ = record { waits = []; waiting = []; lines = []; queued = [] } in
    rw c.new-3.ensures.items (sound_new c.args.rooms c.args.feeds notices c.in_ok-channels.channels _ o _ (c.in_ok-channels.ensures.2 o (c.new-2.ensures.2 0) (c.new.ensures.2 0)) (zeros 32))
