-- What the calls of a block store do. Assumes nothing.
use Rattle.std.proofs.Common.{◌≡◌, ℕ, ◌+◌, ◌*◌, ◌<◌, ◌≤◌, true, false, ltb, List, length, get_or, take, drop, set, vec_items, sym, refl, ap, ◌∙◌, subst, ⊎_elim, arith, length-drop, length-set, length-take}
use lib.Seq.{paste}
use Rattle.std.proofs.lemmas.List.Edits.{length-paste}
use Rattle.std.proofs.lemmas.List.{get_or-set_same, get_or-set_other}
use Rattle.std.proofs.lemmas.Bool.{cases_lt, lt-ltb, le-ltb, cases_eq}
use Rattle.stores.specs.declared.node.Node.{Node}
use Rattle.stores.specs.declared.node.Entry.{Entry}
use Rattle.stores.specs.declared.block.BlockStore.{BlockStore}
use Rattle.resources.specs.Files.{put, extended}
use Rattle.stores.specs.Chains.{node, blank_node, entry, linked, shifted_nodes, shifted_entries, jump_of, Short}
use Rattle.stores.specs.Filed.{files_of, files_in, load_of}
use Rattle.stores.specs.Stores.{block_val, block_files, block_load, blocks}
use Rattle.stores.proofs.Layings.{laid_here, laid_below, laid_above, stretch_same}
use Rattle.stores.proofs.Tables.{all_nodes}
use Rattle.stores.proofs.Filing.{append_files}

-- a batch finds space exactly while a block is free
pub space_none : (s : BlockStore) → (entry s.dir.entries 0).len ≡ 0 → ltb (block_load s).batches (blocks s) ≡ false
space_none s z = le-ltb _ _ (omega (arith, all_nodes s.dir.order (block_val (vec_items s.memory.words))))

pub space_some : (s : BlockStore) → 0 < (entry s.dir.entries 0).len → ltb (block_load s).batches (blocks s) ≡ true
space_some s h = lt-ltb _ _ (omega (arith, all_nodes s.dir.order (block_val (vec_items s.memory.words))))

-- the first free block lies in the memory
pub block_in : (s : BlockStore) (n : ℕ) → 0 < (entry s.dir.entries 0).len → n ≤ 64 → (entry s.dir.entries 0).last * 64 + n ≤ length (vec_items s.memory.words)
block_in s n h l =
    let b = (s.dir.order.sound.lasts 0 (omega (arith, s.dir.order.table)) h).0 in
    omega (arith, s.room)

-- other blocks keep their words
block_other : (m : List ℕ) (b c l : ℕ) (ws : List ℕ) → b * 64 + length ws ≤ length m → length ws ≤ 64 → l ≤ 64 → (c ≡ b → ⊥) → take l (drop (c * 64) (paste m (b * 64) ws (length ws))) ≡ take l (drop (c * 64) m)
block_other m b c l ws fits short short' h =
    stretch_same m (paste m (b * 64) ws (length ws)) (c * 64) l (length-paste m (b * 64) ws (length ws) fits (omega arith))
    (λ k lo hi.
    ⊎_elim
    (λ (u : c < b). laid_below m (b * 64) ws k fits (omega arith))
    (λ (u : b ≤ c). laid_above m (b * 64) ws k fits (let w : b < c = omega arith in omega arith))
    (cases_lt c b))

module _ (s : BlockStore) (i n : ℕ) (ws m : List ℕ) (lo : 0 < i) (le : i ≤ s.dir.count) (some : 0 < (entry s.dir.entries 0).len) (short : length ws ≤ 64)
    (laid : m ≡ paste (vec_items s.memory.words) ((entry s.dir.entries 0).last * 64) ws (length ws)) (ps : List Node) (qs : List Entry)
    (nodes : ps ≡ shifted_nodes (vec_items s.dir.nodes) s.dir.entries 0 i (jump_of (vec_items s.dir.nodes) s.dir.entries 0 i) 0 (length ws))
    (entries : qs ≡ shifted_entries (vec_items s.dir.nodes) s.dir.entries 0 i) (number : (entry s.dir.entries i).number ≡ n) where
  pub block_append : {count' : ℕ} → count' ≡ s.dir.count →
      (files_in ps (block_val m) qs count' ≡ put (block_files s) n (extended (block_files s n) ws)) × (load_of (files_of ps (block_val m) qs count') ≡ record (block_load s) { batches = (block_load s).batches + 1 })
  block_append e =
      let w = vec_items s.memory.words in
      let b = (entry s.dir.entries 0).last in
      let fits = block_in s (length ws) some short in
      append_files s.dir.order (block_val w) (block_val m) i 0 (length ws) ws lo le some
      (λ c l h. ap (λ (x : List ℕ). take (node (vec_items s.dir.nodes) c).length (drop (c * 64) x)) laid ∙ block_other w b c _ ws fits short (s.short c l) h)
      (ap (λ (x : List ℕ). take (length ws) (drop (b * 64) x)) laid ∙ laid_here w (b * 64) ws (length ws) refl fits)
      n nodes entries e number

-- after a shift the batches are still short, and there are as many nodes
pub short_set : (ns : List Node) (b : ℕ) (d : Node) → Short ns → b < length ns → d.length ≤ 64 → Short (set ns b d)
short_set ns b d h l m c lc =
    ⊎_elim
    (λ (u : c ≡ b). subst (λ (x : Node). x.length ≤ 64) (sym (ap (λ (k : ℕ). get_or (set ns b d) k blank_node) u ∙ get_or-set_same ns b d blank_node l)) m)
    (λ (u : c ≡ b → ⊥). subst (λ (x : Node). x.length ≤ 64) (sym (get_or-set_other ns b c d blank_node u)) (h c (omega (arith, length-set ns b d))))
    (cases_eq c b)

pub shift_keeps : (s : BlockStore) (i : ℕ) (ws m : List ℕ) → 0 < (entry s.dir.entries 0).len → length ws ≤ 64 → length m ≡ length (vec_items s.memory.words) → (ps : List Node) →
    ps ≡ shifted_nodes (vec_items s.dir.nodes) s.dir.entries 0 i (jump_of (vec_items s.dir.nodes) s.dir.entries 0 i) 0 (length ws) → (length ps * 64 ≤ length m) × Short ps
shift_keeps s i ws m some short long ps e =
    let b = (s.dir.order.sound.lasts 0 (omega (arith, s.dir.order.table)) some).0 in
    let ns = vec_items s.dir.nodes in
    let d = linked (entry s.dir.entries i) (entry s.dir.entries 0).last (jump_of ns s.dir.entries 0 i) 0 (length ws) in
    let lp : length ps ≡ length ns = ap length e ∙ length-set ns _ d in
    (omega (arith, s.room), subst Short (sym e) (short_set ns _ d s.short b short))

-- a block of the store lies in the memory
pub read_in : (s : BlockStore) (b : ℕ) (d : Node) → b < length (vec_items s.dir.nodes) → d ≡ node (vec_items s.dir.nodes) b → (b * 64 + d.length ≤ length (vec_items s.memory.words)) × (d.length ≤ 64)
read_in s b d l e =
    let short : d.length ≤ 64 = subst (λ (x : Node). x.length ≤ 64) (sym e) (s.short b l) in
    (omega (arith, s.room), short)

-- what it holds is as long as its node says
pub read_value : (s : BlockStore) (b : ℕ) (d : Node) → b < length (vec_items s.dir.nodes) → d ≡ node (vec_items s.dir.nodes) b →
    (take d.length (drop (b * 64) (vec_items s.memory.words)) ≡ block_val (vec_items s.memory.words) b (node (vec_items s.dir.nodes) b))
    × (d.length ≡ length (block_val (vec_items s.memory.words) b (node (vec_items s.dir.nodes) b)))
read_value s b d l e =
    let w = vec_items s.memory.words in
    let a = read_in s b d l e in
    let v : take d.length (drop (b * 64) w) ≡ block_val w b (node (vec_items s.dir.nodes) b) = ap (λ (x : Node). take x.length (drop (b * 64) w)) e in
    let long : length (take d.length (drop (b * 64) w)) ≡ d.length = length-take d.length (drop (b * 64) w) ∙ omega (arith, length-drop (b * 64) w, a.0) in
    (v, sym long ∙ ap length v)
