-- Entries by number, and what a chain holds. Assumes nothing.
use Rattle.std.proofs.Common.{◌≡◌, ℕ, zero, suc, ◌+◌, ◌-◌, ◌<◌, ◌≤◌, true, false, eqb, List, [], ◌∷◌, ◌++◌, length, get_or, sym, refl, ap, ◌∙◌, subst, ⊎_elim, arith}
use native.Mathlib.Nat.{suc_inj}
use Rattle.std.proofs.lemmas.List.{get_or_read, get_or_append_left, get_or_push, length_push}
use Rattle.std.proofs.lemmas.Bool.{eq-eqb, ne_eqb, cond-true, cond-false, cases_eq, eqb-true, cases_Bool}
use Rattle.stores.specs.declared.node.Node.{Node}
use Rattle.stores.specs.declared.node.Entry.{Entry}
use Rattle.stores.specs.Chains.{node, entry, blank_node, len_of, walk, Apart, Sound}

-- a node that was read
pub node_read : (ns : List Node) {b : ℕ} {x : Node} → b < length ns → x ≡ get_or ns b x → x ≡ node ns b
node_read ns {b} {x} l e = get_or_read ns b x l e blank_node

-- apart entries, the first taken away
apart_rest : (e : Entry) (es : List Entry) → Apart [] (e ∷ es) → Apart [] es
apart_rest e es a i j (li, lj, h) = suc_inj (a (suc i) (suc j) (omega arith, omega arith, h))

-- an entry's chain is as long as the entry says
pub len_of-at : (es : List Entry) (i : ℕ) → Apart [] es → i < length es → len_of es (entry es i).number ≡ (entry es i).len
len_of-at [] i a l = absurd (omega arith)
len_of-at (e ∷ es) zero a l = cond-true (eqb e.number e.number) e.len (len_of es e.number) (eq-eqb e.number e.number refl)
len_of-at (e ∷ es) (suc i) a l =
    let ne : e.number ≡ (entry es i).number → ⊥ = λ h. let z : ◌≡◌ {A = ℕ} 0 (suc i) = a 0 (suc i) (omega arith, l, h) in omega arith in
    cond-false _ _ _ (ne_eqb _ _ ne) ∙ len_of-at es i (apart_rest e es a) (omega arith)

-- a chain that is there has an entry
pub len_of_some : (es : List Entry) (n : ℕ) → 0 < len_of es n → (i : ℕ) × (i < length es) × ((entry es i).number ≡ n)
len_of_some [] n l = absurd (omega arith)
len_of_some (e ∷ es) n l =
    ⊎_elim
    (λ (h : eqb e.number n ≡ true). (0, omega arith, eqb-true _ _ h))
    (λ (h : eqb e.number n ≡ false).
    let l' : 0 < len_of es n = subst (λ (u : ℕ). 0 < u) (cond-false _ _ _ h) l in
    let r = len_of_some es n l' in
    (suc r.0, omega (arith, r.1), r.2))
    (cases_Bool (eqb e.number n))

module _ {ns : List Node} {es : List Entry} (s : Sound ns es) where
  -- the entry of a node
  pub owner_entry : (b : ℕ) → b < length ns → (i : ℕ) × (i < length es) × ((entry es i).number ≡ (node ns b).owner) × ((node ns b).place < (entry es i).len)
  owner_entry b l =
      let o = s.owned b l in
      let r = len_of_some es (node ns b).owner (omega arith) in
      let i = r.0 in
      let e : len_of es (node ns b).owner ≡ (entry es i).len = ap (len_of es) (sym r.2) ∙ len_of-at es i s.apart r.1 in
      (i, r.1, r.2, subst (λ (u : ℕ). (node ns b).place < u) e o)

  -- a node of the entry i stands in its chain
  pub place_below : (b i : ℕ) → b < length ns → i < length es → (node ns b).owner ≡ (entry es i).number → (node ns b).place < (entry es i).len
  place_below b i l li e =
      let o = s.owned b l in
      subst (λ (u : ℕ). (node ns b).place < u) (ap (len_of es) e ∙ len_of-at es i s.apart li) o

-- a node whose owner is an entry's, in good order by index
pub owned_from : (es : List Entry) (n p i : ℕ) → Apart [] es → i < length es → (entry es i).number ≡ n → p < (entry es i).len → p < len_of es n
owned_from es n p i a l e h = subst (λ (u : ℕ). p < u) (sym (ap (len_of es) (sym e) ∙ len_of-at es i a l)) h

-- x begins a chain of n nodes of the number o
abbrev pub Begins : List Node → ℕ → ℕ → ℕ → Type 0
Begins ns o x n = 0 < n → (x < length ns) × ((node ns x).owner ≡ o) × ((node ns x).place + 1 ≡ n)

module _ (ns : List Node) (backed : (b : ℕ) → b < length ns → ((node ns b).back < length ns) × ((node ns (node ns b).back).owner ≡ (node ns b).owner) × ((node ns (node ns b).back).place ≡ (node ns b).place - 1)) where
  -- the node before begins the chain before
  pub begins_back : (o x n : ℕ) → Begins ns o x (suc n) → Begins ns o (node ns x).back n
  begins_back o x n h l =
      let a = h (omega arith) in
      let k = backed x a.0 in
      (k.0, k.1 ∙ a.1, omega (arith, a.2, k.2))

  -- a chain is what its own nodes say
  pub walk_frame : (bk : ℕ → ℕ) (val val' : ℕ → List ℕ) (o m : ℕ) →
      ((c : ℕ) → c < length ns → (node ns c).owner ≡ o → (node ns c).place < m → (bk c ≡ (node ns c).back) × (val' c ≡ val c)) →
      (n x : ℕ) → n ≤ m → Begins ns o x n → walk bk val' x n ≡ walk (λ c. (node ns c).back) val x n
  walk_frame bk val val' o m same zero x le h = refl
  walk_frame bk val val' o m same (suc n) x le h =
      let a = h (omega arith) in
      let k = same x a.0 a.1 (omega (arith, a.2)) in
      let ih = walk_frame bk val val' o m same n (node ns x).back (omega arith) (begins_back o x n h) in
      ap (λ (y : ℕ). walk bk val' y n ++ val' x ∷ []) k.0 ∙ ap (λ (w : List ℕ). walk bk val' (node ns x).back n ++ w ∷ []) k.1 ∙ ap (λ (ws : List (List ℕ)). ws ++ val x ∷ []) ih

  pub length-walk : (bk : ℕ → ℕ) (val : ℕ → List ℕ) (x n : ℕ) → length (walk bk val x n) ≡ n
  length-walk bk val x zero = refl
  length-walk bk val x (suc n) = length_push (walk bk val (bk x) n) (val x) ∙ omega (arith, length-walk bk val (bk x) n)

  -- batch k of a chain is what its node at the place k holds
  pub walk_at : ((b c : ℕ) → (b < length ns) × (c < length ns) × ((node ns b).owner ≡ (node ns c).owner) × ((node ns b).place ≡ (node ns c).place) → b ≡ c) →
      (val : ℕ → List ℕ) (o k c : ℕ) → c < length ns → (node ns c).owner ≡ o → (node ns c).place ≡ k →
      (n x : ℕ) → Begins ns o x n → k < n → get_or (walk (λ b. (node ns b).back) val x n) k [] ≡ val c
  walk_at one val o k c lc oc pc zero x h l = absurd (omega arith)
  walk_at one val o k c lc oc pc (suc n) x h l =
      let bk : ℕ → ℕ = λ b. (node ns b).back in
      let a = h (omega arith) in
      let len = length-walk bk val (node ns x).back n in
      ⊎_elim
      (λ (e : k ≡ n).
      let same : x ≡ c = one x c (a.0, lc, a.1 ∙ sym oc, omega (arith, a.2)) in
      get_or_push (walk bk val (node ns x).back n) (val x) [] k (len ∙ sym e) ∙ ap val same)
      (λ (ne : k ≡ n → ⊥).
      let less : k < n = omega arith in
      get_or_append_left (walk bk val (node ns x).back n) (val x ∷ []) [] k (omega arith) ∙ walk_at one val o k c lc oc pc n (node ns x).back (begins_back o x n h) less)
      (cases_eq k n)
