use Rattle.std.proofs.Common.{ℕ, ◌+◌, ◌-◌, ◌^◌, min, sym, ap, ◌∙◌, arith}
use Rattle.std.proofs.lemmas.Result.{err_from_is_err_and}
use Rattle.spill_pool.proofs.Guarding.{writes_failed, writes_kept, writes_full}
use Rattle.spill_pool.proofs.FileRecord.write.Goals as goal

pub returns-in_err-append_to-clause-by : goal.returns-in_err-append_to-clause-by
returns-in_err-append_to-clause-by g c =
    let p = err_from_is_err_and c.from_residual.result c.from_residual.ensures.1 in
    rw (p.1, p.2) (writes_failed c.args.setup c.args.batch.now.size _ c.args.self.now _ _ c.append_to.result c.append_to.ensures c.in_err-append_to.field-0.0 c.in_err-append_to.was _ c.drop-guard.ensures)

pub returns-then-is_full-clause-by : goal.returns-then-is_full-clause-by
returns-then-is_full-clause-by g c =
    writes_full c.args.setup c.args.batch.now.size _ c.args.self.now _ _ c.append_to.result c.append_to.ensures tt c.in_ok-append_to.was c.saturating_add-guard.result c.saturating_add-guard-2.result
    c.saturating_add-guard.ensures (c.saturating_add-guard-2.ensures ∙ ap (λ (x : ℕ). min (c.args.self.now.sum + x) (2 ^ 64 - 1)) c.from.ensures) (omega arith)
    _ c.drop-guard-then-is_full.ensures (sym c.is_full.ensures ∙ c.if-is_full.true) _ c.finish.result c.finish.ensures

pub returns-clause-by : goal.returns-clause-by
returns-clause-by g c =
    writes_kept c.args.setup c.args.batch.now.size _ c.args.self.now _ _ c.append_to.result c.append_to.ensures tt c.in_ok-append_to.was c.saturating_add-guard.result c.saturating_add-guard-2.result
    c.saturating_add-guard.ensures (c.saturating_add-guard-2.ensures ∙ ap (λ (x : ℕ). min (c.args.self.now.sum + x) (2 ^ 64 - 1)) c.from.ensures) (omega arith)
    _ c.drop-guard-2.ensures (sym c.is_full.ensures ∙ c.if-is_full.false)
