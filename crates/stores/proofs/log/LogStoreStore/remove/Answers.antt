-- There was no such file; or it goes, and the run restarts if it was the last.
use Rattle.std.proofs.Common.{vec_items, ◌∙◌}
use Rattle.stores.specs.Stores.{log_val, log_words}
use Rattle.stores.proofs.Logging.{remove-keeps, restart_keeps, empty_files}
use Rattle.stores.proofs.log.LogStoreStore.remove.Goals.{else-remove-via-then-remove+else-self-eq0, else-remove-via-else-remove}
use Rattle.stores.proofs.log.LogStoreStore.remove.Goals as goal

pub invariant_of-self : goal.invariant_of-self
invariant_of-self c = record { run = restart_keeps c.args.self.now c.args.file _ c.remove.new.self c.remove.ensures c.if-self-eq0.true _ c.mark.ensures }

pub invariant_of-self-else-self-eq0 : goal.invariant_of-self-else-self-eq0
invariant_of-self-else-self-eq0 c = record { run = remove-keeps c.args.self.now c.args.file _ c.remove.new.self c.remove.ensures }

pub invariant_of-self-else-remove : goal.invariant_of-self-else-remove
invariant_of-self-else-remove c = record { run = remove-keeps c.args.self.now c.args.file _ c.remove.new.self c.remove.ensures }

pub returns-then-self-eq0-clause-after : goal.returns-then-self-eq0-clause-after
returns-then-self-eq0-clause-after c =
    let w = log_words c.args.self.now in
    (empty_files c.remove.new.self (vec_items c.mark.new.self.words) w c.if-self-eq0.true).0 ∙ c.remove.ensures.after (log_val w)

pub returns-else-remove-clause-after : goal.returns-else-remove-clause-after
returns-else-remove-clause-after c =
    elim c.else-remove.branch [
      | else-remove-via-then-remove+else-self-eq0 w ↦ rw w.self-is (w.if-remove.ensures.after (log_val (log_words c.args.self.now)))
      | else-remove-via-else-remove w ↦ rw w.self-is (w.if-remove.ensures.after (log_val (log_words c.args.self.now)))
    ]
