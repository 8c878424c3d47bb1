use Rattle.std.proofs.Common.{sym, refl, ◌∙◌}
use Rattle.std.proofs.lemmas.Result.{err_from_is_err_and}
use Rattle.spill_pool.specs.Meaning.{Lawful, kind_of}
use Rattle.spill_pool.proofs.Shutting.{closes_unfit, closes_shut, closes_fewer, closes_none, closes_last, close_history}
use Rattle.spill_pool.proofs.SpillPool.close_sink.Given as given
use Rattle.spill_pool.proofs.SpillPool.close_sink.Goals as goal

-- the laws of the payload type
lawful : (g : given.Over) → Lawful (kind_of g.P.Payload)
lawful g = record { narrow = g.met.P.Payload.narrow; long = g.met.P.Payload.long; back = g.met.P.Payload.back; small = λ x. (g.met.P.Payload.small x).1 }

pub returns-in_err-fit-clause-law : goal.returns-in_err-fit-clause-law
returns-in_err-fit-clause-law g c =
    let p = err_from_is_err_and c.from_residual.result c.from_residual.ensures.1 in
    rw (p.1, p.2, c.in_err-fit.ensures.0) (closes_unfit (lawful g) _ _ _ c.in_err-fit.ensures.1)

pub returns-in_err-fit-clause-history : goal.returns-in_err-fit-clause-history
returns-in_err-fit-clause-history g c = close_history (lawful g) _ _ _ _ _ _ _ (returns-in_err-fit-clause-law g c)

pub returns-then-self-eq0-clause-law : goal.returns-then-self-eq0-clause-law
returns-then-self-eq0-clause-law g c =
    closes_shut (lawful g) _ _ _ c.in_ok-fit.ensures c.if-self-eq0.true

pub returns-then-self-eq0-clause-history : goal.returns-then-self-eq0-clause-history
returns-then-self-eq0-clause-history g c = close_history (lawful g) _ _ _ _ _ _ _ (returns-then-self-eq0-clause-law g c)

pub returns-then-self-gt0-clause-law : goal.returns-then-self-gt0-clause-law
returns-then-self-gt0-clause-law g c =
    closes_fewer (lawful g) _ _ _ c.in_ok-fit.ensures _ c.if-self-eq0.false refl refl c.if-self-gt0.true refl refl

pub returns-then-self-gt0-clause-history : goal.returns-then-self-gt0-clause-history
returns-then-self-gt0-clause-history g c = close_history (lawful g) _ _ _ _ _ _ _ (returns-then-self-gt0-clause-law g c)

pub returns-in_default-clause-law : goal.returns-in_default-clause-law
returns-in_default-clause-law g c =
    closes_none (lawful g) _ _ _ c.in_ok-fit.ensures _ c.if-self-eq0.false refl refl c.if-self-gt0.false (sym c.take.ensures.value ∙ c.in_default.is) refl c.take.ensures.after

pub returns-in_default-clause-history : goal.returns-in_default-clause-history
returns-in_default-clause-history g c = close_history (lawful g) _ _ _ _ _ _ _ (returns-in_default-clause-law g c)

pub returns-clause-law : goal.returns-clause-law
returns-clause-law g c =
    closes_last (lawful g) _ _ _ c.in_ok-fit.ensures _ c.if-self-eq0.false refl refl c.if-self-gt0.false c.in-Some.kept c.record.result c.record.ensures _ _ _ c.finish-told.result (sym c.take.ensures.value ∙ c.in-Some.is) c.finish-told.ensures c.take.ensures.after c.settle.ensures.law

pub returns-clause-history : goal.returns-clause-history
returns-clause-history g c = close_history (lawful g) _ _ _ _ _ _ _ (returns-clause-law g c)
