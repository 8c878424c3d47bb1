use Rattle.std.proofs.Common.{refl}
use Rattle.std.proofs.lemmas.Result.{err_from_is_err_and}
use Rattle.spill_pool.specs.Meaning.{Lawful, kind_of}
use Rattle.spill_pool.proofs.Fetching.{polls_unfit, polls_none, polls_drained, polls_faulty, polls_batch, poll_history}
use Rattle.spill_pool.proofs.SpillPool.poll.Given as given
use Rattle.spill_pool.proofs.SpillPool.poll.Goals as goal

-- the laws of the payload type
lawful : (g : given.Over) → Lawful (kind_of g.P.Payload)
lawful g = record { narrow = g.met.P.Payload.narrow; long = g.met.P.Payload.long; back = g.met.P.Payload.back; small = λ x. (g.met.P.Payload.small x).1 }

pub returns-in_err-fit-clause-law : goal.returns-in_err-fit-clause-law
returns-in_err-fit-clause-law g c =
    let p = err_from_is_err_and c.from_residual.result c.from_residual.ensures.1 in
    rw (p.1, p.2, c.in_err-fit.ensures.0) (polls_unfit (lawful g) _ _ _ c.in_err-fit.ensures.1)

pub returns-in_err-fit-clause-history : goal.returns-in_err-fit-clause-history
returns-in_err-fit-clause-history g c = poll_history (lawful g) _ _ _ _ _ _ _ (returns-in_err-fit-clause-law g c)

pub returns-in_default-clause-law : goal.returns-in_default-clause-law
returns-in_default-clause-law g c =
    polls_none (lawful g) _ _ _ c.in_ok-fit.ensures c.resting.result c.resting.ensures c.in_default.ensures

pub returns-in_default-clause-history : goal.returns-in_default-clause-history
returns-in_default-clause-history g c = poll_history (lawful g) _ _ _ _ _ _ _ (returns-in_default-clause-law g c)

pub returns-then-file-clause-law : goal.returns-then-file-clause-law
returns-then-file-clause-law g c =
    polls_drained (lawful g) _ _ _ c.in_ok-fit.ensures c.in-Some.oldest.now c.in-Some.ensures c.resting-then-file.result c.resting-then-file.ensures c.if-file.true

pub returns-then-file-clause-history : goal.returns-then-file-clause-history
returns-then-file-clause-history g c = poll_history (lawful g) _ _ _ _ _ _ _ (returns-then-file-clause-law g c)

pub returns-in-Err-clause-law : goal.returns-in-Err-clause-law
returns-in-Err-clause-law g c =
    polls_faulty (lawful g) _ _ _ c.in_ok-fit.ensures c.in-Some.oldest.now c.in-Some.ensures c.if-file.false c.index_of.result c.index_of.ensures _ c.in-Err.cause _ c.in-Err.ensures.lawful c.in-Err.ensures.after c.of_store-fault.ensures

pub returns-in-Err-clause-history : goal.returns-in-Err-clause-history
returns-in-Err-clause-history g c = poll_history (lawful g) _ _ _ _ _ _ _ (returns-in-Err-clause-law g c)

pub returns-clause-law : goal.returns-clause-law
returns-clause-law g c =
    polls_batch (lawful g) _ _ _ c.in_ok-fit.ensures c.in-Some.oldest.now c.in-Some.ensures c.if-file.false c.index_of.result c.index_of.ensures _ _ _ _ c.in_default-read.field-0 _ _ _ _ c.in_default-read.ensures.lawful c.in_default-read.ensures.after c.in_default-read.ensures.place c.read-2.ensures refl c.advance.ensures.law refl refl refl

pub returns-clause-history : goal.returns-clause-history
returns-clause-history g c = poll_history (lawful g) _ _ _ _ _ _ _ (returns-clause-law g c)
