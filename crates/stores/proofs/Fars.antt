-- The jumps by which a new node's is chosen do not rise. Assumes nothing.
use Rattle.std.proofs.Common.{◌≡◌, ℕ, ◌<◌, ◌≤◌, List, [], length, get_or, sym, ap, ◌∙◌, subst, arith}
use Rattle.stores.specs.declared.node.Node.{Node}
use Rattle.stores.specs.Chains.{node, Jumps}
use Rattle.stores.proofs.Chaining.{node_read}

module _ (ns : List Node) (jumps : Jumps ns []) {x : ℕ} {near hop : Node} (l : x < length ns) (e : near ≡ get_or ns x near) (f : hop ≡ get_or ns near.jump hop) where
  near_is : near ≡ node ns x
  near_is = node_read ns l e

  hop_in : near.jump < length ns
  hop_in = subst (λ (y : Node). y.jump < length ns) (sym near_is) (jumps x l).0

  pub near_sub : hop.place ≤ near.place
  near_sub =
      let a : hop.place ≡ (node ns (node ns x).jump).place = ap (λ (y : Node). y.place) (node_read ns hop_in f ∙ ap (λ (y : Node). node ns y.jump) near_is) in
      let b : near.place ≡ (node ns x).place = ap (λ (y : Node). y.place) near_is in
      omega (arith, (jumps x l).2)

pub hop_sub : (ns : List Node) (jumps : Jumps ns []) {x : ℕ} {near hop leap : Node} → x < length ns → near ≡ get_or ns x near → hop ≡ get_or ns near.jump hop → leap ≡ get_or ns hop.jump leap → leap.place ≤ hop.place
hop_sub ns jumps l e f g = near_sub ns jumps (hop_in ns jumps l e f) f g
