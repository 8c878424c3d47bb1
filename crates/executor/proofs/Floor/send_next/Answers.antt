use Rattle.std.proofs.Common.{◌≡◌, slice_get, Some, rules, arith}
use Rattle.std.proofs.lemmas.Option.{slice_get_read}
use Rattle.executor.proofs.Booking.{next_found, not_sent, sound_done, sound_sent, sound_refused}
use Rattle.executor.proofs.Floor.send_next.Goals as goal

pub returns-in_default-next_of : goal.returns-in_default-next_of
returns-in_default-next_of c = λ n v sent s.
    let at : slice_get c.args.self.now.cursors c.args.feed ≡ Some c.in-Some.field-0.now = search (rules, slice_get_read) in
    sound_done s c.args.feed _ at c.in_default-next_of.ensures

pub overflow_add-self : goal.overflow_add-self
overflow_add-self c =
    let next = next_found c.args.feed _ c.args.notices.now (Some (c.in-Some-next_of.i, c.in-Some-next_of.notice)) c.in-Some-next_of.ensures in
    let h = next.within in
    omega (arith, c.step.ensures.one)

pub returns-in_err-sending : goal.returns-in_err-sending
returns-in_err-sending c = λ n v sent s.
    let at : slice_get c.args.self.now.cursors c.args.feed ≡ Some c.in-Some.field-0.now = search (rules, slice_get_read) in
    let p = c.send_poll-polled in
    rw (not_sent c.from_residual.result sent c.from_residual.ensures.0)
    (sound_refused s c.args.feed _ at _ c.in-Some-next_of.notice c.in-Some-next_of.ensures _ _ _ p.result p.ensures.law p.ensures.history _ c.in_err-sending.ensures)

pub returns : goal.returns
returns c = λ n v sent s.
    let at : slice_get c.args.self.now.cursors c.args.feed ≡ Some c.in-Some.field-0.now = search (rules, slice_get_read) in
    let p = c.send_poll-polled in
    rw c.step.ensures.law
    (sound_sent s c.args.feed _ at _ c.in-Some-next_of.notice c.in-Some-next_of.ensures _ _ _ p.result p.ensures.law p.ensures.history _ c.in_ok-sending.ensures)
