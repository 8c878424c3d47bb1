-- The directory's finish; no node changes.
use Rattle.std.proofs.Common.{refl}
use Rattle.stores.specs.Stores.{log_val, log_view, log_words}
use Rattle.stores.proofs.Logging.{keeps_same}
use Rattle.stores.proofs.log.LogStoreStore.finish.Goals as goal

pub invariant_of-self : goal.invariant_of-self
invariant_of-self c = record { run = keeps_same c.args.self.now c.finish.new.self c.finish.ensures.nodes c.finish.ensures.free }

pub returns : goal.returns
returns c =
    let s = c.args.self.now in
    let v = log_val (log_words s) in
    let e = c.finish.ensures in
    record { lawful = e.lawful v; after = e.after v; exact = record { reply = e.reply v (log_view s).space; load = e.load v; end = refl; words = refl } }
