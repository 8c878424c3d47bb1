-- What the calls of a log store do. Assumes nothing.
use Rattle.std.proofs.Common.{◌≡◌, ℕ, ◌+◌, ◌-◌, ◌/◌, ◌<◌, ◌≤◌, Bool, true, leb, List, length, get_or, take, drop, set, Some, None, vec_items, Option, sym, refl, ap, ◌∙◌, subst, ⊎_elim, arith, length-drop, length-set, length-take}
use lib.Seq.{paste}
use Rattle.std.proofs.lemmas.List.Edits.{length-paste}
use Rattle.std.proofs.lemmas.List.{get_or-set_same, get_or-set_other}
use Rattle.std.proofs.lemmas.Bool.{le-leb, cases_eq}
use Rattle.stores.specs.declared.node.Node.{Node}
use Rattle.stores.specs.declared.node.Entry.{Entry}
use Rattle.stores.specs.declared.directory.Directory.{Directory}
use Rattle.stores.specs.declared.log.LogStore.{LogStore}
use Rattle.resources.specs.Files.{File, put, extended}
use Rattle.stores.specs.Chains.{node, blank_node, entry, linked, shifted_nodes, shifted_entries, jump_of, Below, Marked, Short, Run, Order}
use Rattle.stores.specs.Filed.{files_of, files_in, Load, load_of, without, dir_files, dir_load, Opened, Removes}
use Rattle.stores.specs.Stores.{log_val, log_files, log_load, log_words, recorded, zeroed}
use Rattle.stores.proofs.Chaining.{owner_entry}
use Rattle.stores.proofs.Shifting.{entry_from, moves_of}
use Rattle.stores.proofs.Blocking.{short_set}
use Rattle.stores.proofs.Layings.{laid_here, laid_below, stretch_same}
use Rattle.stores.proofs.Tables.{all_nodes}
use Rattle.stores.proofs.Filing.{append_files}

-- the same nodes, and as many of them free
pub keeps_same : (s : LogStore) (t : Directory) → vec_items t.nodes ≡ vec_items s.dir.nodes → (entry t.entries 0).len ≡ (entry s.dir.entries 0).len → Run (vec_items t.nodes) t.entries (log_words s) s.end
keeps_same s t e f = record {
  within = s.run.within;
  low = subst (λ (x : List Node). Below x s.end) (sym e) s.run.low;
  short = subst Short (sym e) s.run.short;
  mark = s.run.mark;
  enough = omega (arith, s.run.enough, ap length e);
  thin = omega (arith, s.run.thin, ap length e);
}

-- the words that a record leaves
module _ (m : List ℕ) (at n : ℕ) (ws : List ℕ) (fits : at + 2 + length ws ≤ length m) where
  abbrev two : List ℕ
  two = set (set m at n) (at + 1) (length ws)

  long_two : length two ≡ length m
  long_two = length-set (set m at n) (at + 1) (length ws) ∙ length-set m at n

  abbrev laid : List ℕ
  laid = paste two (at + 2) ws (length ws)

  long_laid : length laid ≡ length m
  long_laid = length-paste two (at + 2) ws (length ws) (omega (arith, long_two)) (omega arith) ∙ long_two

  pub long_recorded : length (recorded m at n ws) ≡ length m
  long_recorded = length-set laid (at + 2 + length ws) 0 ∙ long_laid

  -- what stands before stays
  pub record_before : (k : ℕ) → k < at → get_or (recorded m at n ws) k 0 ≡ get_or m k 0
  record_before k l =
      get_or-set_other laid (at + 2 + length ws) k 0 0 (omega arith)
      ∙ laid_below two (at + 2) ws k (omega (arith, long_two)) (omega arith)
      ∙ get_or-set_other (set m at n) (at + 1) k (length ws) 0 (omega arith) ∙ get_or-set_other m at k n 0 (omega arith)

  -- the batch stands behind the two words
  pub record_batch : take (length ws) (drop (at + 2) (recorded m at n ws)) ≡ ws
  record_batch =
      stretch_same laid (recorded m at n ws) (at + 2) (length ws) (length-set laid (at + 2 + length ws) 0) (λ k lo hi. get_or-set_other laid (at + 2 + length ws) k 0 0 (omega arith))
      ∙ laid_here two (at + 2) ws (length ws) refl (omega (arith, long_two))

  pub record_mark : Marked (recorded m at n ws) (at + 2 + length ws)
  record_mark l = get_or-set_same laid (at + 2 + length ws) 0 0 (omega (arith, long_laid, long_recorded))

  record_stretch : (start l : ℕ) → start + l ≤ at → take l (drop start (recorded m at n ws)) ≡ take l (drop start m)
  record_stretch start l h = stretch_same m (recorded m at n ws) start l long_recorded (λ k lo hi. record_before k (omega arith))

-- while the run has room, a node is free
pub node_free : (s : LogStore) (n : ℕ) → 0 < n → s.end + 2 + n ≤ length (log_words s) → 0 < (entry s.dir.entries 0).len
node_free s n h fits = omega (arith, s.run.enough, s.run.thin)

module _ (s : LogStore) (i n : ℕ) (ws m : List ℕ) (lo : 0 < i) (le : i ≤ s.dir.count) (some : 0 < length ws) (fits : s.end + 2 + length ws ≤ length (log_words s))
    (laid : m ≡ recorded (log_words s) s.end n ws) (ps : List Node) (qs : List Entry)
    (nodes : ps ≡ shifted_nodes (vec_items s.dir.nodes) s.dir.entries 0 i (jump_of (vec_items s.dir.nodes) s.dir.entries 0 i) (s.end + 2) (length ws))
    (entries : qs ≡ shifted_entries (vec_items s.dir.nodes) s.dir.entries 0 i) (number : (entry s.dir.entries i).number ≡ n) where
  free : 0 < (entry s.dir.entries 0).len
  free = node_free s (length ws) some fits

  pub log_append : {count' : ℕ} → count' ≡ s.dir.count →
      (files_in ps (log_val m) qs count' ≡ put (log_files s) n (extended (log_files s n) ws)) × (load_of (files_of ps (log_val m) qs count') ≡ record (log_load s) { batches = (log_load s).batches + 1 })
  log_append e =
      let w = log_words s in
      let ns = vec_items s.dir.nodes in
      append_files s.dir.order (log_val w) (log_val m) i (s.end + 2) (length ws) ws lo le free
      (λ c l h. ap (λ (x : List ℕ). take (node ns c).length (drop (node ns c).start x)) laid ∙ record_stretch w s.end n ws fits (node ns c).start (node ns c).length (s.run.low c l))
      (ap (λ (x : List ℕ). take (length ws) (drop (s.end + 2) x)) laid ∙ record_batch w s.end n ws fits)
      n nodes entries e number

  pub append-keeps : length ws ≤ 64 → Run ps qs m (s.end + 2 + length ws)
  append-keeps small =
      let w = log_words s in
      let ns = vec_items s.dir.nodes in
      let es = s.dir.entries in
      let b = (entry es 0).last in
      let mv = moves_of s.dir.order 0 i (omega arith) le (λ u. omega arith) free in
      let lb = (mv.sound.lasts 0 mv.source free).0 in
      let d = linked (entry es i) b (jump_of ns es 0 i) (s.end + 2) (length ws) in
      let lm : length m ≡ length w = ap length laid ∙ long_recorded w s.end n ws fits in
      let lp : length ps ≡ length ns = ap length nodes ∙ length-set ns b d in
      let ez : (entry qs 0).len ≡ (entry es 0).len - 1 = ap (λ (x : List Entry). (entry x 0).len) entries ∙ ap (λ (x : Entry). x.len) (entry_from mv (s.end + 2) (length ws)) in
      let low : Below (set ns b d) (s.end + 2 + length ws) = λ c l.
      ⊎_elim
      (λ (u : c ≡ b). subst (λ (x : Node). x.start + x.length ≤ s.end + 2 + length ws) (sym (ap (λ (k : ℕ). get_or (set ns b d) k blank_node) u ∙ get_or-set_same ns b d blank_node lb)) (omega arith))
      (λ (u : c ≡ b → ⊥). subst (λ (x : Node). x.start + x.length ≤ s.end + 2 + length ws) (sym (get_or-set_other ns b c d blank_node u)) (omega (arith, s.run.low c (omega (arith, length-set ns b d)))))
      (cases_eq c b) in
      record {
        within = omega arith;
        low = subst (λ (x : List Node). Below x (s.end + 2 + length ws)) (sym nodes) low;
        short = subst Short (sym nodes) (short_set ns b d s.run.short lb small);
        mark = subst (λ (x : List ℕ). Marked x (s.end + 2 + length ws)) (sym laid) (record_mark w s.end n ws fits);
        enough = omega (arith, s.run.enough);
        thin = omega (arith, s.run.thin);
      }

pub room_some : (s : LogStore) (ws : List ℕ) → s.end + 2 + length ws ≤ length (log_words s) → leb (s.end + 2 + length ws) (length (log_words s)) ≡ true
room_some s ws h = le-leb _ _ h

-- a record of the store lies in the run
pub record_in : (s : LogStore) (b : ℕ) (d : Node) → b < length (vec_items s.dir.nodes) → d ≡ node (vec_items s.dir.nodes) b → d.start + d.length ≤ length (log_words s)
record_in s b d l e = subst (λ (x : Node). x.start + x.length ≤ length (log_words s)) (sym e) (omega (arith, s.run.low b l, s.run.within))

pub record_value : (s : LogStore) (b : ℕ) (d : Node) → b < length (vec_items s.dir.nodes) → d ≡ node (vec_items s.dir.nodes) b →
    (take d.length (drop d.start (log_words s)) ≡ log_val (log_words s) b (node (vec_items s.dir.nodes) b)) × (d.length ≡ length (log_val (log_words s) b (node (vec_items s.dir.nodes) b)))
record_value s b d l e =
    let w = log_words s in
    let a = record_in s b d l e in
    let v : take d.length (drop d.start w) ≡ log_val w b (node (vec_items s.dir.nodes) b) = ap (λ (x : Node). take x.length (drop x.start w)) e in
    let long : length (take d.length (drop d.start w)) ≡ d.length = length-take d.length (drop d.start w) ∙ omega (arith, length-drop d.start w) in
    (v, sym long ∙ ap length v)

-- a file less has no more batches
less : (m : Load) (o : Option File) → (without m o).batches ≤ m.batches
less m None = omega arith
less m (Some f) = omega arith

-- the nodes after a file is taken away
pub remove-keeps : (s : LogStore) (n : ℕ) (b : Bool) (t : Directory) → Removes s.dir n b t → Run (vec_items t.nodes) t.entries (log_words s) s.end
remove-keeps s n b t r =
    let v = log_val (log_words s) in
    let before = all_nodes s.dir.order v in
    let after = all_nodes t.order v in
    let l = less (log_load s) (log_files s n) in
    let g : (dir_load t v).batches ≡ (without (log_load s) (log_files s n)).batches = ap (λ (x : Load). x.batches) (r.load v) in
    record {
      within = s.run.within;
      low = λ k l. omega (arith, (r.words k).1, s.run.low k (omega (arith, r.size)));
      short = λ k l. omega (arith, (r.words k).0, s.run.short k (omega (arith, r.size)));
      mark = s.run.mark;
      enough = omega (arith, s.run.enough, r.size);
      thin = omega (arith, s.run.thin, r.size);
    }

-- without files every node is free
all_free : {ns : List Node} {es : List Entry} {next : ℕ} (o : Order ns es 0 next) (b : ℕ) → b < length ns → (node ns b).owner ≡ 0
all_free {es = es} o b l =
    let r = owner_entry o.sound b l in
    ⊎_elim
    (λ (z : r.0 ≡ 0). sym r.2 ∙ ap (λ (k : ℕ). (entry es k).number) z ∙ o.free)
    (λ (z : r.0 ≡ 0 → ⊥). let u = (o.unused r.0 (omega arith, r.1)).0 in absurd (omega (arith, r.3)))
    (cases_eq r.0 0)

pub restart_keeps : (s : LogStore) (n : ℕ) (b : Bool) (t : Directory) → Removes s.dir n b t → t.count ≡ 0 → (m : List ℕ) → m ≡ zeroed (log_words s) 0 → Run (vec_items t.nodes) t.entries m 0
restart_keeps s n b t r z m f =
    let o : Order (vec_items t.nodes) t.entries 0 t.next = subst (λ (x : ℕ). Order (vec_items t.nodes) t.entries x t.next) z t.order in
    let lm : length m ≡ length (log_words s) = ap length f ∙ length-set (log_words s) 0 0 in
    let all : (entry t.entries 0).len + 0 ≡ length (vec_items t.nodes) = all_nodes o (log_val m) in
    let low : Below (vec_items t.nodes) 0 = λ k l. let u = o.idle k (l, all_free o k l) in omega (arith, u.0, u.1) in
    record {
      within = omega arith;
      low = low;
      short = λ k l. omega (arith, (r.words k).0, s.run.short k (omega (arith, r.size)));
      mark = λ l. ap (λ (x : List ℕ). get_or x 0 0) f ∙ get_or-set_same (log_words s) 0 0 0 (omega arith);
      enough = omega (arith, s.run.enough, r.size);
      thin = omega arith;
    }

-- without files the words do not matter
pub empty_files : (d : Directory) (m w : List ℕ) → d.count ≡ 0 → (dir_files d (log_val m) ≡ dir_files d (log_val w)) × (dir_load d (log_val m) ≡ dir_load d (log_val w))
empty_files d m w z = (
  ap (files_in (vec_items d.nodes) (log_val m) d.entries) z ∙ sym (ap (files_in (vec_items d.nodes) (log_val w) d.entries) z),
  ap (λ (x : ℕ). load_of (files_of (vec_items d.nodes) (log_val m) d.entries x)) z ∙ sym (ap (λ (x : ℕ). load_of (files_of (vec_items d.nodes) (log_val w) d.entries x)) z),
)

-- a directory without files, and a node for each three words
pub open_keeps : (d : Directory) {n : ℕ} (given m : List ℕ) → Opened n d → n ≡ length given / 3 → m ≡ zeroed given 0 → Run (vec_items d.nodes) d.entries m 0
open_keeps d given m o e f =
    let lm : length m ≡ length given = ap length f ∙ length-set given 0 0 in
    record {
      within = omega arith;
      low = λ b l. let u = o.free b (omega (arith, o.size)) in rw u (omega arith);
      short = λ b l. let u = o.free b (omega (arith, o.size)) in rw u (omega arith);
      mark = λ l. ap (λ (x : List ℕ). get_or x 0 0) f ∙ get_or-set_same given 0 0 0 (omega arith);
      enough = omega (arith, o.size);
      thin = omega (arith, o.size, ap (λ (x : Entry). x.len) o.blank.free);
    }
