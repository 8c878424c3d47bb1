-- The numbers of the causes. Assumes nothing.
use Rattle.std.specs.Prelude.{ℕ}
use Rattle.resources.specs.declared.cause.Cause.{Cause}
use Rattle.resources.specs.declared.cause.Cause.TheVariants.{NoSpace, Misuse, Device}

abbrev pub cause_number : Cause → ℕ
cause_number NoSpace = 1
cause_number Misuse = 2
cause_number Device = 3
