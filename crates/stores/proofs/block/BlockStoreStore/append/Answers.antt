-- A batch that is not allowed, no free block, or one block more.
use Rattle.std.proofs.Common.{length, vec_items, refl, ap, ◌∙◌, arith, length-set}
use Rattle.std.proofs.lemmas.List.Edits.{length-paste}
use Rattle.std.proofs.lemmas.Result.{err_from_is_err_and}
use Rattle.stores.specs.Stores.{block_val, block_view}
use Rattle.stores.proofs.Blocking.{space_none, space_some, block_in, block_append, shift_keeps}
use Rattle.stores.proofs.Replies.{no_append, no_space, appends, may, length_small, omega_pos}
use Rattle.stores.proofs.block.BlockStoreStore.append.Goals as goal

pub returns-in_err-i : goal.returns-in_err-i
returns-in_err-i c =
    let s = c.args.self.now in
    let p = err_from_is_err_and c.from_residual.result c.from_residual.ensures.1 in
    let h = c.in_err-i.ensures.1 (block_val (vec_items s.memory.words)) in
    rw (p.1, p.2, c.in_err-i.ensures.0) (record { lawful = h; after = refl; exact = record { reply = no_append s.dir (block_val (vec_items s.memory.words)) (block_view s).space c.args.file c.args.words.now h; load = refl; size = refl } })

pub returns-then-free-eq0-clause-exact : goal.returns-then-free-eq0-clause-exact
returns-then-free-eq0-clause-exact c =
    let s = c.args.self.now in
    let h = may s.dir c.args.file c.args.words.now c.in_ok-i.i c.in_ok-i.ensures (block_val (vec_items s.memory.words)) in
    record { reply = no_space s.dir (block_val (vec_items s.memory.words)) (block_view s).space c.args.file c.args.words.now h (space_none s c.if-free-eq0.true); load = refl; size = refl }

pub invariant_of-self : goal.invariant_of-self
invariant_of-self c =
    let s = c.args.self.now in
    let ws = c.args.words.now in
    let short = length_small ws c.in_ok-i.ensures.3 in
    let some = omega_pos _ c.if-free-eq0.false in
    let o =
    shift_keeps s c.in_ok-i.i ws (vec_items c.lay.new.self.words) some short (ap length c.lay.ensures.words ∙ length-paste _ _ ws _ (block_in s (length ws) some short) (omega arith)) _ c.shift.ensures.nodes in
    record { room = o.0; short = o.1 }

pub returns : goal.returns
returns c =
    let s = c.args.self.now in
    let ws = c.args.words.now in
    let f = c.in_ok-i.ensures in
    let some = omega_pos _ c.if-free-eq0.false in
    let h = may s.dir c.args.file ws c.in_ok-i.i f (block_val (vec_items s.memory.words)) in
    let e = c.shift.ensures in
    let r = block_append s c.in_ok-i.i c.args.file ws (vec_items c.lay.new.self.words) f.0 f.1 some (length_small ws f.3) c.lay.ensures.words (vec_items c.shift.new.self.nodes) c.shift.new.self.entries e.nodes e.entries f.2 e.rest.0 in
    record { lawful = h; after = r.0; exact = record { reply = appends s.dir (block_val (vec_items s.memory.words)) (block_view s).space c.args.file ws h (space_some s some); load = r.1; size = ap length e.nodes ∙ length-set _ _ _ } }
