-- No such batch, or its words.
use Rattle.std.proofs.Common.{ℕ, List, ◌++◌, drop, vec_items, refl, ap, ◌∙◌}
use Rattle.std.proofs.lemmas.Result.{err_from_is_err_and}
use Rattle.stores.specs.Stores.{block_val, block_files}
use Rattle.stores.proofs.Chaining.{node_read}
use Rattle.stores.proofs.Filing.{located_some, located_none}
use Rattle.stores.proofs.Blocking.{read_value}
use Rattle.stores.proofs.Replies.{read_none, read_some}
use Rattle.stores.proofs.block.BlockStoreStore.read.Goals as goal

pub returns-in_err-b : goal.returns-in_err-b
returns-in_err-b c =
    let s = c.args.self.now in
    let p = err_from_is_err_and c.from_residual.result c.from_residual.ensures.1 in
    let h = read_none (block_files s) c.args.file c.args.batch (located_none s.dir.order (block_val (vec_items s.memory.words)) c.args.file c.args.batch _ c.in_err-b.ensures) in
    rw (p.1, p.2, c.in_err-b.ensures.0) (record { lawful = h.0; after = refl; place = refl; exact = record { reply = h.1; load = refl; size = refl } })

pub returns : goal.returns
returns c =
    let s = c.args.self.now in
    let n = c.index.result.now.length in
    let e = located_some s.dir.order (block_val (vec_items s.memory.words)) c.args.file c.args.batch c.in_ok-b.b c.in_ok-b.ensures in
    let a = read_value s c.in_ok-b.b c.index.result.now c.in_ok-b.ensures.5 (node_read (vec_items c.args.self.now.dir.nodes) c.in_ok-b.ensures.5 c.index.ensures) in
    let h = read_some (block_files s) c.args.file c.args.batch n _ c.args.place.now e a.1 in
    record { lawful = h.0; after = refl; place = c.fetch.ensures ∙ ap (λ (x : List ℕ). x ++ drop n c.args.place.now) a.0 ∙ h.2; exact = record { reply = h.1; load = refl; size = refl } }
