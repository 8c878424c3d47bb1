use Rattle.std.proofs.Common.{refl}
use Rattle.executor.proofs.Booking.{onward_more}
use Rattle.executor.proofs.run.Run.feed_turn.Goals as goal

pub returns-in_ok-wake-in-Sent : goal.returns-in_ok-wake-in-Sent
returns-in_ok-wake-in-Sent g c = (refl, λ n v sent s. (_, c.send_next.ensures n v sent s))

pub returns-in-Waits : goal.returns-in-Waits
returns-in-Waits g c = (refl, λ n v sent s. (_, c.send_next.ensures n v sent s))

pub returns-in-Full : goal.returns-in-Full
returns-in-Full g c = (refl, λ n v sent s. (_, c.send_next.ensures n v sent s))

pub returns-in_ok-close_all-in-Done : goal.returns-in_ok-close_all-in-Done
returns-in_ok-close_all-in-Done g c =
    let e = c.in_ok-close_all-in-Done.ensures in
    (e.0, onward_more c.args.self.now.notices.now c.args.self.now.floor c.send_next.new.self c.close_all.new.self.floor (λ n v sent s. (_, c.send_next.ensures n v sent s)) e.1)
