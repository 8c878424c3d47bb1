use Rattle.std.proofs.Common.{refl}
use Rattle.std.proofs.lemmas.Result.{err_from_is_err_and}
use Rattle.spill_pool.specs.Meaning.{Lawful, kind_of}
use Rattle.spill_pool.proofs.Shutting.{removes_unfit, removes_all, remove-history}
use Rattle.spill_pool.proofs.SpillPool.remove_all.Given as given
use Rattle.spill_pool.proofs.SpillPool.remove_all.Goals as goal

-- the laws of the payload type
lawful : (g : given.Over) → Lawful (kind_of g.P.Payload)
lawful g = record { narrow = g.met.P.Payload.narrow; long = g.met.P.Payload.long; back = g.met.P.Payload.back; small = λ x. (g.met.P.Payload.small x).1 }

pub returns-in_err-fit-clause-law : goal.returns-in_err-fit-clause-law
returns-in_err-fit-clause-law g c =
    let p = err_from_is_err_and c.from_residual.result c.from_residual.ensures.1 in
    rw (p.1, p.2, c.in_err-fit.ensures.0) (removes_unfit (lawful g) _ _ _ c.in_err-fit.ensures.1)

pub returns-in_err-fit-clause-history : goal.returns-in_err-fit-clause-history
returns-in_err-fit-clause-history g c = remove-history (lawful g) _ _ _ _ _ _ _ (returns-in_err-fit-clause-law g c)

pub returns-clause-law : goal.returns-clause-law
returns-clause-law g c =
    removes_all (lawful g) _ _ _ c.in_ok-fit.ensures _ _ _ refl refl refl c.clear.ensures.law

pub returns-clause-history : goal.returns-clause-history
returns-clause-history g c = remove-history (lawful g) _ _ _ _ _ _ _ (returns-clause-law g c)
