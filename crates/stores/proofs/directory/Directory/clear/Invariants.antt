use Rattle.std.proofs.Common.{◌≡◌, vec_items}
use Rattle.stores.specs.Chains.{entry, Cleared}
use Rattle.stores.proofs.directory.Directory.clear.Given as goal

-- only batches of the entry went
abbrev pub invariant-loop-self : goal.invariant-loop-self
invariant-loop-self l =
    Cleared (vec_items l.initial.self.nodes) l.initial.self.entries l.i (vec_items l.self.nodes) l.self.entries
    × (l.self.count ≡ l.initial.self.count) × (l.self.next ≡ l.initial.self.next)

abbrev pub decreases-loop-self : goal.decreases-loop-self
decreases-loop-self l = (entry l.self.entries l.i).len
