-- A directory without files. Assumes nothing.
use Rattle.std.proofs.Common.{◌≡◌, ℕ, ◌+◌, ◌-◌, ◌<◌, ◌≤◌, List, [], ◌++◌, length, take, drop, set, replicate, sum_by, sym, refl, ap, ◌∙◌, subst, ⊎_elim, arith, length-set}
use lib.ListN.{length-replicate}
use Rattle.std.proofs.lemmas.List.{get_or-set_same, get_or-set_other, get_or-replicate, take_at}
use Rattle.std.proofs.lemmas.List.Sums.{sum_by-set}
use Rattle.std.proofs.lemmas.Bool.{cases_eq}
use Rattle.stores.specs.declared.node.Node.{Node}
use Rattle.stores.specs.declared.node.Entry.{Entry}
use Rattle.stores.specs.Chains.{node, entry, blank_entry, free_node, spare, Blank, Sound, Apart, Order}
use Rattle.stores.proofs.Chaining.{owned_from}

-- numbered up to i, all empty and open
pub record Numbered (es : List Entry) (i : ℕ) : Type 0 where
  pub long : length es ≡ 257
  pub below : (k : ℕ) → k < i → entry es k ≡ spare k
  pub above : (k : ℕ) → i ≤ k → k < 257 → entry es k ≡ spare 0
  pub total : sum_by (λ e. e.len) es ≡ 0

pub numbered-none : Numbered (replicate 257 (spare 0)) 0
numbered-none = record {
  long = length-replicate 257 (spare 0);
  below = λ k l. absurd (omega arith);
  above = λ k l l'. get_or-replicate 257 k (spare 0) blank_entry l';
  total = refl;
}

pub numbered_more : (es : List Entry) (i : ℕ) (e : Entry) → Numbered es i → i < 257 → e ≡ spare i → Numbered (set es i e) (i + 1)
numbered_more es i e h l is =
    subst (λ (x : Entry). Numbered (set es i x) (i + 1)) (sym is)
    (record {
      long = length-set es i _ ∙ h.long;
      below = λ k lk.
          ⊎_elim
          (λ (u : k ≡ i). subst (λ (x : ℕ). entry (set es i (spare i)) x ≡ spare x) (sym u) (get_or-set_same es i _ _ (omega (arith, h.long))))
          (λ (u : k ≡ i → ⊥). get_or-set_other es i k _ _ u ∙ h.below k (omega arith))
          (cases_eq k i);
      above = λ k lo hi. get_or-set_other es i k (spare i) blank_entry (omega arith) ∙ h.above k (omega arith) hi;
      total = omega (arith, sum_by-set (λ (x : Entry). x.len) es i (spare i) blank_entry (omega (arith, h.long)), ap (λ (x : Entry). x.len) (h.above i (omega arith) l), h.total);
    })

pub blank_made : (es : List Entry) (n m : ℕ) (f : Entry) → Numbered es 257 → m ≡ n - 1 → f ≡ spare 0 → Blank n (set es 0 (record f { last = m; len = n }))
blank_made es n m f h e is =
    let g : Entry = record f { last = m; len = n } in
    record {
      table = length-set es 0 g ∙ h.long;
      free = get_or-set_same es 0 g blank_entry (omega (arith, h.long)) ∙ ap (λ (x : Entry). record x { last = m; len = n }) is ∙ ap (λ (x : ℕ). record (spare 0) { last = x; len = n }) e;
      files = λ i lo l. get_or-set_other es 0 i g blank_entry (omega arith) ∙ h.below i l;
      total = omega (arith, sum_by-set (λ (x : Entry). x.len) es 0 g blank_entry (omega (arith, h.long)), ap (λ (x : Entry). x.len) (h.below 0 (omega arith)), h.total);
    }

-- all of a list that was lent comes back
pub lent_back : (xs ys : List Node) (n : ℕ) → length xs ≡ length ys → n ≡ length ys → take n (xs ++ drop (length xs) ys) ≡ xs
lent_back xs ys n e f = take_at xs (drop (length xs) ys) n (omega arith)

module _ (ns : List Node) (es : List Entry) (small : length ns ≤ 262144) (blank : Blank (length ns) es) (free : (b : ℕ) → b < length ns → node ns b ≡ free_node b) where
  number_is : (i : ℕ) → i < length es → (entry es i).number ≡ i
  number_is i l =
      ⊎_elim
      (λ (u : i ≡ 0). subst (λ (x : ℕ). (entry es x).number ≡ x) (sym u) (ap (λ (x : Entry). x.number) blank.free))
      (λ (u : i ≡ 0 → ⊥). ap (λ (x : Entry). x.number) (blank.files i (omega arith) (omega (arith, blank.table))))
      (cases_eq i 0)

  apart : Apart [] es
  apart i j (li, lj, h) = sym (number_is i li) ∙ h ∙ number_is j lj

  low : (i : ℕ) → i < length es → 0 < (entry es i).len → i ≡ 0
  low i l h =
      ⊎_elim (λ (u : i ≡ 0). u)
      (λ (u : i ≡ 0 → ⊥). let z = ap (λ (x : Entry). x.len) (blank.files i (omega arith) (omega (arith, blank.table))) in absurd (omega arith))
      (cases_eq i 0)

  sound : Sound ns es
  sound =
      let tb = blank.table in
      record {
        owned = λ b l. let e = free b l in owned_from es _ _ 0 apart (omega arith) (ap (λ (x : Entry). x.number) blank.free ∙ sym (ap (λ (x : Node). x.owner) e)) (rw (e, blank.free) l);
        backed = λ b l. let e = free b l in let k : b - 1 < length ns = omega arith in rw (e, free (b - 1) k) (k, refl, refl);
        jumps = λ b l. let e = free b l in let k : b - 1 < length ns = omega arith in rw (e, free (b - 1) k) (k, refl, omega arith);
        lasts = λ i l h.
            let z = low i l h in
            let h0 : 0 < (entry es 0).len = subst (λ (x : ℕ). 0 < (entry es x).len) z h in
            let n0 : 0 < length ns = subst (λ (x : Entry). 0 < x.len) blank.free h0 in
            let k : length ns - 1 < length ns = omega arith in
            rw (z, blank.free, free (length ns - 1) k) (k, refl, omega arith);
        single = λ b c h. sym (ap (λ (x : Node). x.place) (free b h.0)) ∙ h.3 ∙ ap (λ (x : Node). x.place) (free c h.1);
        apart = apart;
        full = blank.total;
      }

  pub open_order : Order ns es 0 257
  open_order =
      let tb = blank.table in
      record {
        sound = sound;
        small = small;
        table = tb;
        few = omega arith;
        ends = omega arith;
        free = ap (λ (x : Entry). x.number) blank.free;
        numbers = λ i l. omega (arith, number_is i l);
        unused = λ i h. rw (blank.files i h.0 (omega (arith, h.1))) (refl, refl);
        idle = λ b h. rw (free b h.0) (refl, refl);
      }

pub open_order_is : (ks ns : List Node) (es : List Entry) → length ks ≤ 262144 → (n : ℕ) → n ≡ length ns → length ns ≡ length ks → Blank n es → ((b : ℕ) → b < length ks → node ns b ≡ free_node b) → Order ns es 0 257
open_order_is ks ns es small n e f blank free =
    open_order ns es (omega arith) (subst (λ (x : ℕ). Blank x es) e blank) (λ b l. free b (omega arith))
