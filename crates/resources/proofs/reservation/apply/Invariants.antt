use Rattle.std.proofs.Common.{◌≡◌, drop}
use Rattle.resources.specs.Reservations.{changes, whole}
use Rattle.resources.proofs.reservation.apply.Given as goal

-- what is left to do gives what all gives, and nothing is lost on the way
abbrev pub invariant-loop-call : goal.invariant-loop-call
invariant-loop-call g l =
    (changes (g.R.Reservation.standing l.reservation) (drop l.call-index l.calls) ≡ changes (g.R.Reservation.standing l.initial.reservation) l.calls)
    × (whole (g.R.Reservation.standing l.reservation) ≡ whole (g.R.Reservation.standing l.initial.reservation))
