-- A batch that is not allowed, too little room, or one record more.
use Rattle.std.proofs.Common.{◌+◌, ◌≤◌, length, vec_items, refl, arith}
use Rattle.std.proofs.lemmas.Result.{err_from_is_err_and}
use Rattle.stores.specs.Stores.{log_val, log_view, log_words}
use Rattle.stores.proofs.Logging.{room_some, log_append, append-keeps}
use Rattle.stores.proofs.Replies.{no_append, appends, may, length_small, length_some}
use Rattle.stores.proofs.log.LogStoreStore.append.Goals as goal

pub returns-in_err-i : goal.returns-in_err-i
returns-in_err-i c =
    let s = c.args.self.now in
    let p = err_from_is_err_and c.from_residual.result c.from_residual.ensures.1 in
    let h = c.in_err-i.ensures.1 (log_val (log_words s)) in
    rw (p.1, p.2, c.in_err-i.ensures.0) (record { lawful = h; after = refl; exact = record { reply = no_append s.dir (log_val (log_words s)) (log_view s).space c.args.file c.args.words.now h; load = refl; end = refl; words = refl } })

pub invariant_of-self : goal.invariant_of-self
invariant_of-self c =
    let s = c.args.self.now in
    let ws = c.args.words.now in
    let f = c.in_ok-i.ensures in
    let e = c.shift.ensures in
    record { run = append-keeps s c.in_ok-i.i c.args.file ws (vec_items c.record.new.self.words) f.0 f.1 (length_some ws f.3) (omega (arith, c.if-next-len.false, c.len.ensures, s.memory.words.ok.0)) c.record.ensures _ _ e.nodes e.entries f.2 (length_small ws f.3) }

pub returns : goal.returns
returns c =
    let s = c.args.self.now in
    let ws = c.args.words.now in
    let f = c.in_ok-i.ensures in
    let fits : s.end + 2 + length ws ≤ length (log_words s) = omega (arith, c.if-next-len.false, c.len.ensures, s.memory.words.ok.0) in
    let h = may s.dir c.args.file ws c.in_ok-i.i f (log_val (log_words s)) in
    let e = c.shift.ensures in
    let r = log_append s c.in_ok-i.i c.args.file ws (vec_items c.record.new.self.words) f.0 f.1 (length_some ws f.3) fits c.record.ensures (vec_items c.shift.new.self.nodes) c.shift.new.self.entries e.nodes e.entries f.2 e.rest.0 in
    record { lawful = h; after = r.0; exact = record { reply = appends s.dir (log_val (log_words s)) (log_view s).space c.args.file ws h (room_some s ws fits); load = r.1; end = refl; words = c.record.ensures } }
