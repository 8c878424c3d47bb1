use Rattle.std.proofs.Common.{◌≡◌, drop}
use Rattle.resources.specs.Reservations.{tenant_changes}
use Rattle.resources.proofs.tenants.Tenants.apply.Given as goal

-- what is left to do gives what all gives, and the limit stays
abbrev pub invariant-loop-call : goal.invariant-loop-call
invariant-loop-call l =
    (tenant_changes l.self.all.limit l.self.held (drop l.call-index l.calls) ≡ tenant_changes l.initial.self.all.limit l.initial.self.held l.calls)
    × (l.self.all.limit ≡ l.initial.self.all.limit)
