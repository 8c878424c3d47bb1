-- Which calls trip, and what a tripping store does. Assumes nothing.
use Rattle.std.specs.Prelude.{◌≡◌, ℕ, ◌+◌, ◌-◌, ◌^◌, Bool, true, false, if◌then◌else◌, ◌&&◌, List, ◌==◌, nat_lt}
use Rattle.std.specs.List.{list_any}
use Rattle.resources.specs.declared.cause.Cause.TheVariants.{Device}
use Rattle.resources.specs.declared.tripping.Tripping.{Tripping}
use Rattle.resources.specs.Files.{Ask, create, append, finish, read, remove, Reply, failed}

-- one more call; the count stays at the largest number that it holds
abbrev pub next_call : ℕ → ℕ
next_call n = if nat_lt n (2 ^ 64 - 1) then n + 1 else n

-- is the number in the list?
abbrev pub listed : ℕ → List ℕ → Bool
listed n xs = list_any (λ x. x == n) xs

-- every call but remove is counted
abbrev pub counts : Ask → Bool
counts create = true
counts (append n ws) = true
counts (finish n) = true
counts (read n k) = true
counts (remove n) = false

-- does the call trip?
abbrev pub trips : ℕ → List ℕ → Ask → Bool
trips calls xs a = counts a && listed (next_call calls) xs

-- a call that trips is counted and not passed on; any other is the call of the store below
pub record TripSteps {S : Type 0} (steps : S → Ask → Reply → S → Type 0) (s : Tripping S) (a : Ask) (r : Reply) (t : Tripping S) : Type 0 where
  pub calls : t.calls ≡ (if counts a then next_call s.calls else s.calls)
  pub list : t.trips.now ≡ s.trips.now
  pub tripped : trips s.calls s.trips.now a ≡ true → (r ≡ failed Device) × (t.below ≡ s.below)
  pub passed : trips s.calls s.trips.now a ≡ false → steps s.below a r t.below
