use Rattle.std.proofs.Common.{◌≡◌, ℕ, ◌<◌}
use Rattle.stores.specs.Chains.{node, free_node}
use Rattle.stores.proofs.directory.free_all.Given as goal

abbrev pub invariant-loop-b : goal.invariant-loop-b
invariant-loop-b l = (k : ℕ) → k < l.b → node l.node-items k ≡ free_node k
