-- One tenant's number and the common sum. Assumes nothing.
use Rattle.std.proofs.Common.{ℕ, ◌<◌, ◌≤◌, length, get_or, arith}
use Rattle.std.proofs.lemmas.List.Sums.{get_or-le-sum_by}
use Rattle.resources.specs.declared.tenants.Tenants.{Tenants}

module _ (t : Tenants) (i : ℕ) (l : i < 16) where
  pub within : i < length t.held
  within = omega (arith, t.sound.1)

  pub own_taken : get_or t.held i 0 ≤ t.all.held
  own_taken = omega (arith, t.sound.0, get_or-le-sum_by (λ (x : ℕ). x) t.held i 0 within)

  pub at_most : get_or t.held i 0 ≤ t.all.limit
  at_most = omega (arith, own_taken, t.all.sound.0)
