use Rattle.std.proofs.Common.{sym, refl, ◌∙◌}
use Rattle.std.proofs.lemmas.Result.{err_from_is_err_and}
use Rattle.spill_pool.specs.Meaning.{Lawful, kind_of}
use Rattle.spill_pool.proofs.Doing.{pushes_unfit, pushes_shut, pushes_skip, pushes_full, pushes_to_open, pushes_to_new, push-history, front_words}
use Rattle.spill_pool.proofs.SpillPool.push.Given as given
use Rattle.spill_pool.proofs.SpillPool.push.Goals as goal

-- the laws of the payload type
lawful : (g : given.Over) → Lawful (kind_of g.P.Payload)
lawful g = record { narrow = g.met.P.Payload.narrow; long = g.met.P.Payload.long; back = g.met.P.Payload.back; small = λ x. (g.met.P.Payload.small x).1 }

pub returns-in_err-fit-clause-law : goal.returns-in_err-fit-clause-law
returns-in_err-fit-clause-law g c =
    let p = err_from_is_err_and c.from_residual.result c.from_residual.ensures.1 in
    rw (p.1, p.2, c.in_err-fit.ensures.0) (pushes_unfit (lawful g) c.args.batch.now _ _ _ c.in_err-fit.ensures.1)

pub returns-in_err-fit-clause-history : goal.returns-in_err-fit-clause-history
returns-in_err-fit-clause-history g c = push-history (lawful g) c.args.batch.now _ _ _ _ _ _ _ (returns-in_err-fit-clause-law g c)

pub returns-then-self-eq0-clause-law : goal.returns-then-self-eq0-clause-law
returns-then-self-eq0-clause-law g c =
    pushes_shut (lawful g) c.args.batch.now _ _ _ c.in_ok-fit.ensures c.if-self-eq0.true

pub returns-then-self-eq0-clause-history : goal.returns-then-self-eq0-clause-history
returns-then-self-eq0-clause-history g c = push-history (lawful g) c.args.batch.now _ _ _ _ _ _ _ (returns-then-self-eq0-clause-law g c)

pub returns-then-rows-eq0-clause-law : goal.returns-then-rows-eq0-clause-law
returns-then-rows-eq0-clause-law g c =
    pushes_skip (lawful g) c.args.batch.now _ _ _ c.in_ok-fit.ensures c.if-self-eq0.false (sym c.rows.ensures ∙ c.if-rows-eq0.true)

pub returns-then-rows-eq0-clause-history : goal.returns-then-rows-eq0-clause-history
returns-then-rows-eq0-clause-history g c = push-history (lawful g) c.args.batch.now _ _ _ _ _ _ _ (returns-then-rows-eq0-clause-law g c)

pub returns-then-free-eq0-clause-law : goal.returns-then-free-eq0-clause-law
returns-then-free-eq0-clause-law g c =
    pushes_full (lawful g) c.args.batch.now _ _ _ c.in_ok-fit.ensures c.if-self-eq0.false (λ e. c.if-rows-eq0.false (c.rows.ensures ∙ e)) c.in_default.is (sym c.free.ensures.0 ∙ c.if-free-eq0.true)

pub returns-then-free-eq0-clause-history : goal.returns-then-free-eq0-clause-history
returns-then-free-eq0-clause-history g c = push-history (lawful g) c.args.batch.now _ _ _ _ _ _ _ (returns-then-free-eq0-clause-law g c)

pub returns-in_default-clause-law : goal.returns-in_default-clause-law
returns-in_default-clause-law g c =
    rw c.from.ensures (pushes_to_new (lawful g) c.args.batch.now _ _ _ c.in_ok-fit.ensures c.if-self-eq0.false (λ e. c.if-rows-eq0.false (c.rows.ensures ∙ e))
    _ _ _ c.push_new-written.result refl refl c.size.result _ c.size.ensures
    (front_words c.WORDS.result g.P.Payload.WORDS (g.P.Payload.words c.args.batch.now) _ c.write.new.place c.write.ensures c.WORDS.ensures (g.met.P.Payload.long c.args.batch.now))
    c.in_default.is (λ e. c.if-free-eq0.false (c.free.ensures.0 ∙ e)) c.push_new-written.ensures.law)

pub returns-in_default-clause-history : goal.returns-in_default-clause-history
returns-in_default-clause-history g c = push-history (lawful g) c.args.batch.now _ _ _ _ _ _ _ (returns-in_default-clause-law g c)

pub returns-clause-law : goal.returns-clause-law
returns-clause-law g c =
    rw c.from-2.ensures (pushes_to_open (lawful g) c.args.batch.now _ _ _ c.in_ok-fit.ensures c.if-self-eq0.false (λ e. c.if-rows-eq0.false (c.rows.ensures ∙ e))
    _ _ _ c.push_open-written.result refl refl c.size.result _ c.size.ensures
    (front_words c.WORDS.result g.P.Payload.WORDS (g.P.Payload.words c.args.batch.now) _ c.write.new.place c.write.ensures c.WORDS.ensures (g.met.P.Payload.long c.args.batch.now))
    c.in-Some.kept c.in-Some.is c.push_open-written.ensures.law)

pub returns-clause-history : goal.returns-clause-history
returns-clause-history g c = push-history (lawful g) c.args.batch.now _ _ _ _ _ _ _ (returns-clause-law g c)
