-- No entry in use has the number, or the first that has it.
use Rattle.std.proofs.Common.{ℕ, ◌+◌, Some, None, sym, ap, ◌∙◌}
use Rattle.std.specs.Option.{option_map}
use Rattle.stores.proofs.Tables.{sought_is}
use Rattle.stores.proofs.directory.Directory.seek.Goals as goal

pub returns-in_err-before : goal.returns-in_err-before
returns-in_err-before c = rw c.from_residual.ensures (sought_is c.args.self.now.order c.args.file None (ap (option_map (λ (i : ℕ). i + 1)) (sym c.in_err-before.was ∙ c.position_of.ensures)))

pub returns : goal.returns
returns c = sought_is c.args.self.now.order c.args.file (Some (c.in_ok-before.before + 1)) (ap (option_map (λ (i : ℕ). i + 1)) (sym c.in_ok-before.was ∙ c.position_of.ensures))
