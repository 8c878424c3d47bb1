-- What a reservation means, and what its calls do. Assumes nothing.
use Rattle.std.specs.Prelude.{◌≡◌, ℕ, ◌+◌, ◌-◌, Bool, if◌then◌else◌, List, [], ◌∷◌, Ok, Err, sum, Result, nat_le, nat_lt, slice_index, slice_set}
use Rattle.refusal.specs.declared.Refusal.{Refusal}
use Rattle.refusal.specs.declared.Refusal.TheVariants.{Range}
use Rattle.resources.specs.declared.ceiling.Ceiling.{Ceiling}
use Rattle.resources.specs.declared.tenants.Tenants.{Tenants}
use Rattle.resources.specs.declared.tenant.Tenant.{Tenant}
use Rattle.resources.specs.declared.reservation.Change.{Change}
use Rattle.resources.specs.declared.reservation.TenantChange.{TenantChange}
use Rattle.resources.specs.declared.reservation.Change.TheVariants.{Grow, Shrink}

-- how much is held, and how much more may be
pub record Standing : Type 0 where
  pub held : ℕ
  pub headroom : ℕ

-- s moves from the headroom to what is held, if there is as much
abbrev pub grown : Standing → ℕ → Standing
grown m s = if nat_le s m.headroom then record { held = m.held + s; headroom = m.headroom - s } else m

-- s moves back, if as much is held
abbrev pub shrunk : Standing → ℕ → Standing
shrunk m s = if nat_le s m.held then record { held = m.held - s; headroom = m.headroom + s } else m

-- what is left below the limit is the headroom
abbrev pub ceiling_standing : Ceiling → Standing
ceiling_standing c = record { held = c.held; headroom = c.limit - c.held }

-- a tenant's headroom is what all together leave of the limit
abbrev pub tenant_standing : Tenants → ℕ → Standing
tenant_standing t i = record { held = slice_index t.held i; headroom = (ceiling_standing t.all).headroom }

-- the same, of the tenant that a handle names
abbrev pub hand_standing : Tenant → Standing
hand_standing t = tenant_standing t.tenants.now t.index

-- one call
abbrev pub change : Standing → Change → Standing
change m (Grow s) = grown m s
change m (Shrink s) = shrunk m s

-- is the call granted?
abbrev pub granted : Standing → Change → Bool
granted m (Grow s) = nat_le s m.headroom
granted m (Shrink s) = nat_le s m.held

-- a list of calls, one after another
abbrev pub changes : Standing → List Change → Standing
changes m [] = m
changes m (c ∷ cs) = changes (change m c) cs

-- held and headroom together
abbrev pub whole : Standing → ℕ
whole m = m.held + m.headroom

-- what a tenant's call leaves: its own number and the common sum move together, the others and the limit stay
pub record TenantMoved (t : Tenants) (i : ℕ) (m : Standing) (u : Tenants) : Type 0 where
  pub limit : u.all.limit ≡ t.all.limit
  pub held : u.held ≡ slice_set t.held i m.held
  pub headroom : (ceiling_standing u.all).headroom ≡ m.headroom

-- the answer to a tenant's call; a tenant that is not there is refused
abbrev pub tenant_answer : Tenants → TenantChange → Result Bool Refusal
tenant_answer t c = if nat_lt c.tenant 16 then Ok (granted (tenant_standing t c.tenant) c.change) else Err Range

-- what the tenants hold after one call, under a common limit; a tenant that is not there changes nothing
abbrev pub tenant_change : ℕ → List ℕ → TenantChange → List ℕ
tenant_change limit held c =
    if nat_lt c.tenant 16
    then slice_set held c.tenant (change (record { held = slice_index held c.tenant; headroom = limit - sum held }) c.change).held
    else held

-- and after a list of calls
abbrev pub tenant_changes : ℕ → List ℕ → List TenantChange → List ℕ
tenant_changes limit held [] = held
tenant_changes limit held (c ∷ cs) = tenant_changes limit (tenant_change limit held c) cs
