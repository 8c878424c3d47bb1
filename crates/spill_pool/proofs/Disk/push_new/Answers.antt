use Rattle.std.proofs.Common.{refl}
use Rattle.std.proofs.lemmas.Result.{err_from_is_err_and}
use Rattle.spill_pool.proofs.Spilling.{pushes_new, pushes_unmade}
use Rattle.spill_pool.proofs.Disk.push_new.Goals as goal

pub returns-in_err-number-clause-law : goal.returns-in_err-number-clause-law
returns-in_err-number-clause-law g c =
    let p = err_from_is_err_and c.from_residual.result c.from_residual.ensures.1 in
    rw (p.1, p.2) (pushes_unmade c.args.setup _ c.args.batch.now.words.now _ _ _ _ _ c.args.current.now _ c.in_err-number.field-0.0 c.in_err-number.ensures refl refl)

pub returns-clause-law : goal.returns-clause-law
returns-clause-law g c = pushes_new c.args.setup _ c.args.batch.now.words.now _ _ _ _ _ _ c.in_ok-number.number c.args.current.now _ _ _ _ _ c.write-written.result c.in_ok-number.ensures c.new-file.ensures c.write-written.ensures.by c.kept.ensures c.file_away.ensures.law
