-- One call of a reservation. Assumes nothing.
use Rattle.std.proofs.Common.{◌≡◌, leb, refl, arith}
use Rattle.std.proofs.lemmas.Bool.{cond_both, leb-true}
use Rattle.resources.specs.declared.reservation.Change.{Change}
use Rattle.resources.specs.declared.reservation.Change.TheVariants.{Grow, Shrink}
use Rattle.resources.specs.Reservations.{Standing, change, whole}

-- it keeps held and headroom together
pub whole-change : (m : Standing) (c : Change) → whole (change m c) ≡ whole m
whole-change m (Grow s) = cond_both (leb s m.headroom) _ m (λ k. whole k ≡ whole m) (λ e. omega (arith, leb-true s m.headroom e)) (λ e. refl)
whole-change m (Shrink s) = cond_both (leb s m.held) _ m (λ k. whole k ≡ whole m) (λ e. omega (arith, leb-true s m.held e)) (λ e. refl)
