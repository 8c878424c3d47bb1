-- What a look-up by numbers finds, where keys and values stand side by side. Assumes nothing.
use Rattle.std.proofs.Common.{◌≡◌, ℕ, zero, suc, Bool, true, false, cond, eqb, ◌==◌, List, [], ◌∷◌, ◌++◌, map, length, get_or, drop, set, Some, None, Option, sym, refl, ap, ◌∙◌, subst, ⊎_elim, arith}
use Rattle.std.specs.List.{remove, find}
use Rattle.std.specs.Option.{option_map}
use Rattle.std.proofs.lemmas.Bool.{cases_eq, cond-true, cond-false, eq-eqb, ne_eqb, eqb-true}
use Rattle.stores.specs.declared.node.Node.{Node}
use Rattle.stores.specs.declared.node.Entry.{Entry}
use Rattle.resources.specs.Files.{File}
use Rattle.stores.specs.Filed.{in_use, numbers_of, file_of, files_of, lookup, files_in}

-- the first key that is n stands at j
abbrev pub Hit : ℕ → List ℕ → ℕ → Type 0
Hit n [] j = ⊥
Hit n (k ∷ ks) zero = eqb n k ≡ true
Hit n (k ∷ ks) (suc j) = (eqb n k ≡ false) × Hit n ks j

-- no key is n
abbrev pub Missing : ℕ → List ℕ → Type 0
Missing n [] = Unit {0}
Missing n (k ∷ ks) = (eqb n k ≡ false) × Missing n ks

module _ {X : Type 0} where
  pub lookup_hit : (n : ℕ) (d : X) (ks : List ℕ) (vs : List X) (j : ℕ) → Hit n ks j → length vs ≡ length ks → lookup ks vs n ≡ Some (get_or vs j d)
  lookup_hit n d [] vs j h e = absurd h
  lookup_hit n d (k ∷ ks) [] j h e = absurd (omega arith)
  lookup_hit n d (k ∷ ks) (v ∷ vs) zero h e = cond-true (eqb n k) (Some v) (lookup ks vs n) h
  lookup_hit n d (k ∷ ks) (v ∷ vs) (suc j) h e = cond-false (eqb n k) (Some v) (lookup ks vs n) h.0 ∙ lookup_hit n d ks vs j h.1 (omega arith)

  pub lookup_missing : (n : ℕ) (ks : List ℕ) (vs : List X) → Missing n ks → lookup ks vs n ≡ None
  lookup_missing n [] vs h = refl
  lookup_missing n (k ∷ ks) [] h = refl
  lookup_missing n (k ∷ ks) (v ∷ vs) h = cond-false (eqb n k) (Some v) (lookup ks vs n) h.0 ∙ lookup_missing n ks vs h.1

  -- behind another key nothing is different
  deeper : (n k m : ℕ) (a b r s : Option X) → eqb n k ≡ false → r ≡ cond (eqb m n) a s → cond (eqb m k) b r ≡ cond (eqb m n) a (cond (eqb m k) b s)
  deeper n k m a b r s f e =
      ⊎_elim
      (λ (h : m ≡ n).
      let t = eq-eqb m n h in
      let g : eqb m k ≡ false = ap (λ (u : ℕ). eqb u k) h ∙ f in
      cond-false (eqb m k) b r g ∙ e ∙ cond-true (eqb m n) a s t ∙ sym (cond-true (eqb m n) a (cond (eqb m k) b s) t))
      (λ (h : m ≡ n → ⊥).
      let t = ne_eqb m n h in
      ap (cond (eqb m k) b) (e ∙ cond-false (eqb m n) a s t) ∙ sym (cond-false (eqb m n) a (cond (eqb m k) b s) t))
      (cases_eq m n)

  pub lookup_set : (n m : ℕ) (x : X) (ks : List ℕ) (vs : List X) (i : ℕ) → Hit n ks i → length vs ≡ length ks →
      lookup ks (set vs i x) m ≡ cond (eqb m n) (Some x) (lookup ks vs m)
  lookup_set n m x [] vs i h e = absurd h
  lookup_set n m x (k ∷ ks) [] i h e = absurd (omega arith)
  lookup_set n m x (k ∷ ks) (v ∷ vs) zero h e =
      let s = lookup ks vs m in
      let q : n ≡ k = eqb-true n k h in
      subst (λ (y : ℕ). cond (eqb m k) (Some x) s ≡ cond (eqb m y) (Some x) (cond (eqb m k) (Some v) s)) (sym q)
      (elim (eqb m k) as (λ b. cond b (Some x) s ≡ cond b (Some x) (cond b (Some v) s)) [ true ↦ refl | false ↦ refl ])
  lookup_set n m x (k ∷ ks) (v ∷ vs) (suc i) h e =
      deeper n k m (Some x) (Some v) (lookup ks (set vs i x) m) (lookup ks vs m) h.0 (lookup_set n m x ks vs i h.1 (omega arith))

  pub lookup_push : (n m : ℕ) (x : X) (ks : List ℕ) (vs : List X) → Missing n ks → length vs ≡ length ks →
      lookup (ks ++ n ∷ []) (vs ++ x ∷ []) m ≡ cond (eqb m n) (Some x) (lookup ks vs m)
  lookup_push n m x [] [] h e = refl
  lookup_push n m x [] (v ∷ vs) h e = absurd (omega arith)
  lookup_push n m x (k ∷ ks) [] h e = absurd (omega arith)
  lookup_push n m x (k ∷ ks) (v ∷ vs) h e =
      deeper n k m (Some x) (Some v) (lookup (ks ++ n ∷ []) (vs ++ x ∷ []) m) (lookup ks vs m) h.0 (lookup_push n m x ks vs h.1 (omega arith))

  pub lookup_remove : (n m : ℕ) (ks : List ℕ) (vs : List X) (i : ℕ) → Hit n ks i → Missing n (drop (suc i) ks) → length vs ≡ length ks →
      lookup (remove ks i) (remove vs i) m ≡ cond (eqb m n) None (lookup ks vs m)
  lookup_remove n m [] vs i h g e = absurd h
  lookup_remove n m (k ∷ ks) [] i h g e = absurd (omega arith)
  lookup_remove n m (k ∷ ks) (v ∷ vs) zero h g e =
      let s = lookup ks vs m in
      let q : n ≡ k = eqb-true n k h in
      ⊎_elim
      (λ (u : m ≡ n). ap (lookup ks vs) u ∙ lookup_missing n ks vs g ∙ sym (cond-true (eqb m n) None (cond (eqb m k) (Some v) s) (eq-eqb m n u)))
      (λ (u : m ≡ n → ⊥).
      sym (cond-false (eqb m k) (Some v) s (ne_eqb m k (λ w. u (w ∙ sym q)))) ∙ sym (cond-false (eqb m n) None (cond (eqb m k) (Some v) s) (ne_eqb m n u)))
      (cases_eq m n)
  lookup_remove n m (k ∷ ks) (v ∷ vs) (suc i) h g e =
      deeper n k m None (Some v) (lookup (remove ks i) (remove vs i) m) (lookup ks vs m) h.0 (lookup_remove n m ks vs i h.1 g (omega arith))

  -- a value put twice is the one put last
  pub put_twice : (n m : ℕ) (a b s : Option X) → cond (eqb m n) a (cond (eqb m n) b s) ≡ cond (eqb m n) a s
  put_twice n m a b s = elim (eqb m n) as (λ t. cond t a (cond t b s) ≡ cond t a s) [ true ↦ refl | false ↦ refl ]

-- the file of each number is the one beside it
module _ (ns : List Node) (v : ℕ → Node → List ℕ) where
  found_beside : (n : ℕ) (es : List Entry) → option_map (file_of ns v) (find (λ e. e.number == n) es) ≡ lookup (map (λ e. e.number) es) (map (file_of ns v) es) n
  found_beside n [] = refl
  found_beside n (x ∷ es) =
      let p : Entry → Bool = λ e. e.number == n in
      let rest : Option File = lookup (map (λ e. e.number) es) (map (file_of ns v) es) n in
      ⊎_elim
      (λ (u : n ≡ x.number). ap (option_map (file_of ns v)) (cond-true (p x) (Some x) (find p es) (eq-eqb _ _ (sym u))) ∙ sym (cond-true (eqb n x.number) (Some (file_of ns v x)) rest (eq-eqb _ _ u)))
      (λ (u : n ≡ x.number → ⊥).
      ap (option_map (file_of ns v)) (cond-false (p x) (Some x) (find p es) (ne_eqb _ _ (λ w. u (sym w)))) ∙ found_beside n es ∙ sym (cond-false (eqb n x.number) (Some (file_of ns v x)) rest (ne_eqb _ _ u)))
      (cases_eq n x.number)

  pub files_in_is : (es : List Entry) (count n : ℕ) → files_in ns v es count n ≡ lookup (numbers_of es count) (files_of ns v es count) n
  files_in_is es count n = found_beside n (in_use es count)
