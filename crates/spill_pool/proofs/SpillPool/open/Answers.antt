use Rattle.std.proofs.Common.{refl, arith}
use Rattle.std.proofs.lemmas.Bool.Decides.{nat_tests}
use Rattle.spill_pool.proofs.Doing.{opens}
use Rattle.spill_pool.proofs.SpillPool.open.Goals as goal

pub returns : goal.returns
returns g c w = (grind (arith, nat_tests), refl, grind (arith, nat_tests), λ o fs k. opens w _ _ c.new-2.ensures refl c.if-maximum-gt-MOST_MAXIMUM.false o fs k)
