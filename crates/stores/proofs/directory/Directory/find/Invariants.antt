use Rattle.std.proofs.Common.{◌≡◌, ◌<◌, ◌≤◌, length, vec_items}
use Rattle.stores.specs.Chains.{node}
use Rattle.stores.proofs.directory.Directory.find.Given as goal

-- x stands in the chain, and not before the place
abbrev pub invariant-loop-x : goal.invariant-loop-x
invariant-loop-x l = (l.x < length (vec_items l.self.nodes)) × ((node (vec_items l.self.nodes) l.x).owner ≡ (node (vec_items l.self.nodes) l.last).owner) × (l.k ≤ (node (vec_items l.self.nodes) l.x).place)

abbrev pub decreases-loop-x : goal.decreases-loop-x
decreases-loop-x l = (node (vec_items l.self.nodes) l.x).place
