-- What the calls of a directory answer, and what they do to its files, whatever the nodes hold. Assumes nothing.
use Rattle.std.proofs.Common.{◌≡◌, ℕ, ◌+◌, ◌-◌, ◌<◌, ◌≤◌, Bool, true, false, cond, eqb, ltb, leb, List, ◌++◌, length, drop, set, is_some, vec_items, Some, None, Ok, Err, Option, Result, sym, refl, ap, ◌∙◌, subst, ⊎_elim, arith}
use Rattle.std.specs.Option.{option_map}
use Rattle.std.proofs.lemmas.Bool.{cond-true, cond-false, cases_eq, eq-eqb, ne_eqb, lt-ltb, le-ltb, and_left, and_from, and_parts, leb-true, ltb-true, le-leb, true≢false}
use Rattle.resources.specs.declared.cause.Cause.{Cause}
use Rattle.resources.specs.declared.cause.Cause.TheVariants.{NoSpace, Misuse}
use Rattle.stores.specs.declared.node.Node.{Node}
use Rattle.stores.specs.declared.node.Entry.{Entry}
use Rattle.stores.specs.declared.directory.Directory.{Directory}
use Rattle.resources.specs.Files.{Files, live_at, length_ok, may_append, batch_at, laid, append, number, done, failed}
use Rattle.stores.specs.Chains.{node, entry, closed, closed_up, Cleared, Order, Sought, SoughtOpen}
use Rattle.stores.specs.Filed.{files_of, files_in, load_of, restarts, answer, read_reply, dir_files, dir_load, dir_view, OpensFor, Creates, Finishes, Removes}
use Rattle.stores.proofs.Entries.{finish_free}
use Rattle.stores.proofs.Tables.{files_long, files_create, load_create, new_none, new_above, new_below, file_at, find_none}
use Rattle.stores.proofs.Filing.{live_at_lem, not_live, finish_files, finish_load, remove_files, remove-none}

module _ (d : Directory) (v : ℕ → Node → List ℕ) (space : List ℕ → Bool) where
  -- an append that is not allowed, one without space, and one with space
  pub no_append : (n : ℕ) (ws : List ℕ) → may_append (dir_files d v) n ws ≡ false → failed Misuse ≡ answer (dir_view d v space) (append n ws)
  no_append n ws h = sym (cond-false _ _ (failed Misuse) h)

  pub no_space : (n : ℕ) (ws : List ℕ) → may_append (dir_files d v) n ws ≡ true → space ws ≡ false → failed NoSpace ≡ answer (dir_view d v space) (append n ws)
  no_space n ws h t = sym (cond-true _ (cond (space ws) done (failed NoSpace)) (failed Misuse) h ∙ cond-false (space ws) done (failed NoSpace) t)

  pub appends : (n : ℕ) (ws : List ℕ) → may_append (dir_files d v) n ws ≡ true → space ws ≡ true → done ≡ answer (dir_view d v space) (append n ws)
  appends n ws h t = sym (cond-true _ (cond (space ws) done (failed NoSpace)) (failed Misuse) h ∙ cond-true (space ws) done (failed NoSpace) t)

-- the place for a batch, or none
pub open_for_is : (d : Directory) (n : ℕ) (ws : List ℕ) → length_ok ws ≡ true → (r : Result ℕ Cause) → SoughtOpen d.entries d.count n r → OpensFor d n ws r
open_for_is d n ws ok (Ok i) (lo, le, e, l) = (lo, le, e, ok, λ v. live_at_lem d.order v i n lo le e l)
open_for_is d n ws ok (Err c) (m, h) = (m, λ v. and_left (live_at (dir_files d v n)) (length_ok ws) (not_live d.order v n h))

pub may : (d : Directory) (n : ℕ) (ws : List ℕ) (i : ℕ) → OpensFor d n ws (Ok i) → (v : ℕ → Node → List ℕ) → may_append (dir_files d v) n ws ≡ true
may d n ws i h v = and_from (live_at (dir_files d v n)) (length_ok ws) (h.4 v) h.3

-- a new file
pub creates : (d t : Directory) → d.count < 256 → vec_items t.nodes ≡ vec_items d.nodes → t.entries ≡ d.entries → t.count ≡ d.count + 1 → t.next ≡ d.next → Creates d (Ok (entry d.entries (d.count + 1)).number) t
creates d t l e f g h =
    let o = d.order in
    let files : (v : ℕ → Node → List ℕ) → dir_files t v ≡ files_in (vec_items d.nodes) v d.entries (d.count + 1) = λ v.
    ap (λ (x : List Node). files_in x v t.entries t.count) e ∙ ap (λ (x : List Entry). files_in (vec_items d.nodes) v x t.count) f ∙ ap (files_in (vec_items d.nodes) v d.entries) g in
    let load : (v : ℕ → Node → List ℕ) → dir_load t v ≡ load_of (files_of (vec_items d.nodes) v d.entries (d.count + 1)) = λ v.
    ap (λ (x : List Node). load_of (files_of x v t.entries t.count)) e ∙ ap (λ (x : List Entry). load_of (files_of (vec_items d.nodes) v x t.count)) f ∙ ap (λ (x : ℕ). load_of (files_of (vec_items d.nodes) v d.entries x)) g in
    record {
      made = sym (cond-true _ (Ok (entry d.entries (d.count + 1)).number) (Err NoSpace) (lt-ltb _ 256 l));
      count = g ∙ sym (cond-true _ (d.count + 1) d.count (lt-ltb _ 256 l));
      entries = f;
      nodes = e;
      next = h;
      lawful = λ v. (new_above o v l, new_below o v l, new_none o v l);
      after = λ v. files v ∙ files_create o v l;
      reply = λ v space. sym (cond-true _ (number (entry d.entries (d.count + 1)).number) (failed NoSpace) (lt-ltb _ 256 (omega (arith, files_long o v))));
      load = λ v. load v ∙ load_create o v l;
    }

pub full : (d : Directory) → 256 ≤ d.count → Creates d (Err NoSpace) d
full d l = record {
  made = sym (cond-false _ (Ok (entry d.entries (d.count + 1)).number) (Err NoSpace) (le-ltb _ 256 l));
  count = sym (cond-false _ (d.count + 1) d.count (le-ltb _ 256 l));
  entries = refl;
  nodes = refl;
  next = refl;
  lawful = λ v. (refl, refl);
  after = λ v. refl;
  reply = λ v space. sym (cond-false _ (number (entry d.entries (d.count + 1)).number) (failed NoSpace) (le-ltb _ 256 (omega (arith, files_long d.order v))));
  load = λ v. refl;
}

-- a file that is finished, or none that is open
pub finishes : (d t : Directory) (i n : ℕ) → SoughtOpen d.entries d.count n (Ok i) → vec_items t.nodes ≡ vec_items d.nodes → t.entries ≡ set d.entries i (closed (entry d.entries i)) → t.count ≡ d.count → t.next ≡ d.next → Finishes d n (Ok (tt {0})) t
finishes d t i n (lo, le, e, l) f g h k =
    let o = d.order in
    let ds = set d.entries i (closed (entry d.entries i)) in
    let live = λ (v : ℕ → Node → List ℕ). live_at_lem o v i n lo le e l in
    record {
      marks = (i, lo, le, e, g);
      count = h;
      nodes = f;
      next = k;
      free = ap (λ (x : List Entry). (entry x 0).len) g ∙ finish_free d.entries i lo;
      lawful = live;
      after = λ v. ap (λ (x : List Node). files_in x v t.entries t.count) f ∙ ap (λ (x : List Entry). files_in (vec_items d.nodes) v x t.count) g ∙ ap (files_in (vec_items d.nodes) v ds) h ∙ finish_files o v i lo le n e;
      reply = λ v space. sym (cond-true _ done (failed Misuse) (live v));
      load = λ v. ap (λ (x : List Node). load_of (files_of x v t.entries t.count)) f ∙ ap (λ (x : List Entry). load_of (files_of (vec_items d.nodes) v x t.count)) g ∙ ap (λ (x : ℕ). load_of (files_of (vec_items d.nodes) v ds x)) h ∙ finish_load o v i lo le;
    }

pub no_finish : {U : Type 0} (d : Directory) (n : ℕ) (c : Cause) → SoughtOpen d.entries d.count n (Err c) → Finishes d n {U = U} (Err c) d
no_finish {U = U} d n c (m, h) =
    let dead = λ (v : ℕ → Node → List ℕ). not_live d.order v n h in
    subst (λ (x : Cause). Finishes d n {U = U} (Err x) d) (sym m)
    (record { marks = refl; count = refl; nodes = refl; next = refl; free = refl; lawful = dead; after = λ v. refl; reply = λ v space. sym (cond-false _ done (failed Misuse) (dead v)); load = λ v. refl })

-- a file that goes, or none that was there
pub removes : (d a t : Directory) (i n : ℕ) → Sought d.entries d.count n (Some i) → Cleared (vec_items d.nodes) d.entries i (vec_items a.nodes) a.entries → (entry a.entries i).len ≡ 0 → a.count ≡ d.count →
    (k : ℕ) → vec_items t.nodes ≡ vec_items a.nodes → t.entries ≡ closed_up a.entries i k → t.count ≡ a.count - 1 → Removes d n true t
removes d a t i n (lo, le, e) cl empty z k f g h =
    let o = d.order in
    let o₁ : Order (vec_items a.nodes) a.entries d.count a.next = subst (λ (x : ℕ). Order (vec_items a.nodes) a.entries x a.next) z a.order in
    let less : t.count ≡ d.count - 1 = h ∙ ap (λ (x : ℕ). x - 1) z in
    let r = λ (v : ℕ → Node → List ℕ). remove_files o v i n lo le e o₁ cl empty k f g less t.order in
    record {
      after = λ v. (r v).0;
      load = λ v. (r v).1;
      last = λ v. ap (restarts (dir_load d v)) (file_at o v i n lo le e) ∙ ap (λ (x : ℕ). eqb x 1) (files_long o v)
          ∙ ⊎_elim
          (λ (u : d.count ≡ 1). eq-eqb d.count 1 u ∙ sym (eq-eqb t.count 0 (omega arith)))
          (λ (u : d.count ≡ 1 → ⊥). ne_eqb d.count 1 u ∙ sym (ne_eqb t.count 0 (λ w. u (omega arith))))
          (cases_eq d.count 1);
      size = ap length f ∙ cl.nodes;
      words = λ b. subst (λ (x : List Node). ((node x b).length ≤ (node (vec_items d.nodes) b).length) × ((node x b).start + (node x b).length ≤ (node (vec_items d.nodes) b).start + (node (vec_items d.nodes) b).length)) (sym f) (cl.words b);
    }

pub no_remove : (d : Directory) (n : ℕ) → Sought d.entries d.count n None → Removes d n false d
no_remove d n h = record {
  after = λ v. (remove-none d.order v n h).0;
  load = λ v. (remove-none d.order v n h).1;
  last = λ v. ap (restarts (dir_load d v)) (find_none d.order v n h);
  size = refl;
  words = λ b. (omega arith, omega arith);
}

pub omega_pos : (n : ℕ) → (n ≡ 0 → ⊥) → 0 < n
omega_pos n h = omega arith

-- a batch that is not empty and has at most 64 words
pub length_lawful : (ws : List ℕ) → eqb (length ws) 0 ≡ false → length ws ≤ 64 → length_ok ws ≡ true
length_lawful ws a b = and_from (ltb 0 (length ws)) (leb (length ws) 64) (lt-ltb 0 _ (omega_pos _ (λ z. true≢false (sym (eq-eqb _ _ z) ∙ a)))) (le-leb _ 64 b)

-- a batch of lawful length is short
pub length_small : (ws : List ℕ) → length_ok ws ≡ true → length ws ≤ 64
length_small ws h = leb-true (length ws) 64 (and_parts (ltb 0 (length ws)) (leb (length ws) 64) h).1

pub length_some : (ws : List ℕ) → length_ok ws ≡ true → 0 < length ws
length_some ws h = ltb-true 0 (length ws) (and_parts (ltb 0 (length ws)) (leb (length ws) 64) h).0

-- what a read owes
pub read_none : (fs : Files) (n k : ℕ) → batch_at (fs n) k ≡ None → (is_some (batch_at (fs n) k) ≡ false) × (failed Misuse ≡ read_reply (batch_at (fs n) k))
read_none fs n k e = (ap is_some e, sym (ap read_reply e))

pub read_some : (fs : Files) (n k l : ℕ) (ws place : List ℕ) → batch_at (fs n) k ≡ Some ws → l ≡ length ws →
    (option_map length (batch_at (fs n) k) ≡ Some l) × (number l ≡ read_reply (batch_at (fs n) k)) × (ws ++ drop l place ≡ laid (batch_at (fs n) k) place)
read_some fs n k l ws place e f = (
  ap (option_map length) e ∙ ap Some (sym f),
  ap number f ∙ sym (ap read_reply e),
  ap (λ (x : ℕ). ws ++ drop x place) f ∙ sym (ap (λ (x : Option (List ℕ)). laid x place) e),
)
