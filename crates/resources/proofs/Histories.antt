-- One call more in a history. Assumes nothing.
use Rattle.std.proofs.Common.{◌≡◌, ℕ, ◌+◌, ◌-◌, ◌<◌, ◌≤◌, min, replicate, true, false, cond, eqb, List, [], ◌∷◌, ◌++◌, length, get_or, take, drop, set, Some, None, Option, Result, sym, refl, ap, ◌∙◌, subst, ⊎_elim, arith, length-append, length-drop, length-take, All}
use Rattle.std.specs.List.{slice_get}
use Rattle.std.specs.Option.{option_map}
use Rattle.std.proofs.lemmas.List.{take_at, drop_at, drop-replicate, length-replicate, take_more, take_more_set, drop-drop, drop-set-lt}
use Rattle.std.proofs.lemmas.List.Elements.{All-push}
use Rattle.std.proofs.lemmas.Bool.{cases_eq, cond-true, cond-false, eq-eqb, ne_eqb}
use Rattle.resources.specs.declared.runs.Call.{Call}
use Rattle.resources.specs.declared.cause.Cause.{Cause}
use Rattle.resources.specs.declared.runs.Answer.{Answer}
use Rattle.resources.specs.Files.{File, Files, put, fresh, extended, shut, batch_at, laid, Ask, Reply}
use Rattle.resources.specs.History.{Event, created, appended, shutdown, gave, removed, nothing, event, history, batches_of, held_by, appends, Faithful, Happens, Asked, Ran, more}

-- what a read gave is what stands in the place
pub read_words : (o : Option (List ℕ)) (l : ℕ) (p q : List ℕ) → option_map length o ≡ Some l → q ≡ laid o p → length p ≡ 64 → length q ≡ 64 → o ≡ Some (take (min l 64) q)
read_words None l p q e f lp lq = absurd (let z : ◌≡◌ {A = ℕ} 0 1 = cc in omega arith)
read_words (Some ws) l p q e f lp lq =
    let el : length ws ≡ l = cc in
    let lw : length ws + (64 - length ws) ≡ 64 = omega (arith, length-append ws (drop (length ws) p), length-drop (length ws) p, ap length f) in
    let m : min l 64 ≡ length ws = omega arith in
    sym (ap Some (ap (λ (k : ℕ). take k q) m ∙ ap (take (length ws)) f ∙ take_at ws (drop (length ws) p) (length ws) refl))

-- and a place of zeros has zeros behind them
pub read_fits : (o : Option (List ℕ)) (l : ℕ) (q : List ℕ) → option_map length o ≡ Some l → q ≡ laid o (replicate 64 0) → length q ≡ 64 → (l ≤ 64) × (drop l q ≡ replicate (64 - l) 0)
read_fits None l q e f lq = absurd (let z : ◌≡◌ {A = ℕ} 0 1 = cc in omega arith)
read_fits (Some ws) l q e f lq =
    let zeros : List ℕ = replicate 64 0 in
    let el : length ws ≡ l = cc in
    let lw : length ws + (64 - length ws) ≡ 64 = omega (arith, length-append ws (drop (length ws) zeros), length-drop (length ws) zeros, length-replicate {A = ℕ} 64 0, ap length f) in (
      omega arith,
      ap (λ (k : ℕ). drop k q) (sym el) ∙ ap (drop (length ws)) f ∙ drop_at ws (drop (length ws) zeros) (length ws) refl ∙ drop-replicate {X = ℕ} (length ws) 64 0 ∙ ap (λ (k : ℕ). replicate (64 - k) 0) el,
    )

pub history_more : (h : List Event) (cs : List Call) (rs : List (Result Answer Cause)) (c : Call) (r : Result Answer Cause) → length cs ≡ length rs → history h (cs ++ c ∷ []) (rs ++ r ∷ []) ≡ event c r ∷ history h cs rs
history_more h [] [] c r e = refl
history_more h [] (x ∷ rs) c r e = absurd (omega arith)
history_more h (x ∷ cs) [] c r e = absurd (omega arith)
history_more h (x ∷ cs) (y ∷ rs) c r e = history_more (event x y ∷ h) cs rs c r (omega arith)

-- one call and its answer at the index i
pub history-at : (cs : List Call) (rs : List (Result Answer Cause)) (i : ℕ) (d : Call) (r : Result Answer Cause) → i < length cs → i < length rs →
    history [] (take (i + 1) cs) (take (i + 1) (set rs i r)) ≡ event (get_or cs i d) r ∷ history [] (take i cs) (take i rs)
history-at cs rs i d r lc lr =
    ap (λ (x : List Call). history [] x (take (i + 1) (set rs i r))) (take_more cs i d lc)
    ∙ ap (history [] (take i cs ++ get_or cs i d ∷ [])) (take_more_set rs i r lr)
    ∙ history_more [] (take i cs) (take i rs) (get_or cs i d) r (length-take i cs ∙ omega arith ∙ sym (length-take i rs))

batches_put : (fs : Files) (m n : ℕ) (o : Option File) → batches_of (put fs m o n) ≡ cond (eqb n m) (batches_of o) (batches_of (fs n))
batches_put fs m n o = elim (eqb n m) as (λ b. batches_of (cond b o (fs n)) ≡ cond b (batches_of o) (batches_of (fs n))) [ true ↦ refl | false ↦ refl ]

batches_extended : (o : Option File) (ws : List ℕ) → (o ≡ None → ⊥) → batches_of (extended o ws) ≡ batches_of o ++ ws ∷ []
batches_extended None ws h = absurd (h refl)
batches_extended (Some f) ws h = refl

batches_shut : (o : Option File) → batches_of (shut o) ≡ batches_of o
batches_shut None = refl
batches_shut (Some f) = refl

batch_nth : (o : Option File) (k : ℕ) (ws : List ℕ) → batch_at o k ≡ Some ws → slice_get (batches_of o) k ≡ Some ws
batch_nth None k ws e = cc
batch_nth (Some f) k ws e = e

-- by whether it is the file that is meant
by_number : (n m : ℕ) (x y z : List (List ℕ)) → (n ≡ m → x ≡ y) → cond (eqb n m) x z ≡ cond (eqb n m) y z
by_number n m x y z h =
    ⊎_elim
    (λ (e : n ≡ m). cond-true _ x z (eq-eqb n m e) ∙ h e ∙ sym (cond-true _ y z (eq-eqb n m e)))
    (λ (e : n ≡ m → ⊥). cond-false _ x z (ne_eqb n m e) ∙ sym (cond-false _ y z (ne_eqb n m e)))
    (cases_eq n m)

same_both : (n m : ℕ) (x : List (List ℕ)) → cond (eqb n m) x x ≡ x
same_both n m x = elim (eqb n m) as (λ b. cond b x x ≡ x) [ true ↦ refl | false ↦ refl ]

module _ (old : ℕ → List (List ℕ)) (fs gs : Files) (h : List Event) (f : Faithful old h) (is : (n : ℕ) → held_by fs n ≡ appends old h n) where
  pub happens_more : (e : Event) → Happens fs e gs → Faithful old (e ∷ h) × ((n : ℕ) → held_by gs n ≡ appends old (e ∷ h) n)
  happens_more (created m) g = (f, λ n. ap (λ (q : Files). batches_of (q n)) g ∙ batches_put fs m n (Some fresh) ∙ ap (cond (eqb n m) []) (is n))
  happens_more (appended m ws) (g, some) = (
    f,
    λ n.
        ap (λ (q : Files). batches_of (q n)) g ∙ batches_put fs m n (extended (fs m) ws)
        ∙ by_number n m (batches_of (extended (fs m) ws)) (appends old h n ++ ws ∷ []) (batches_of (fs n))
        (λ e. batches_extended (fs m) ws some ∙ ap (λ (x : List (List ℕ)). x ++ ws ∷ []) (is m ∙ ap (appends old h) (sym e)))
        ∙ ap (cond (eqb n m) (appends old h n ++ ws ∷ [])) (is n),
  )
  happens_more (shutdown m) g = (
    f,
    λ n.
        ap (λ (q : Files). batches_of (q n)) g ∙ batches_put fs m n (shut (fs m))
        ∙ by_number n m (batches_of (shut (fs m))) (batches_of (fs n)) (batches_of (fs n)) (λ e. batches_shut (fs m) ∙ ap (held_by fs) (sym e))
        ∙ same_both n m (batches_of (fs n)) ∙ is n,
  )
  happens_more (gave m k ws) (b, g) = ((ap (λ (x : List (List ℕ)). slice_get x k) (sym (is m)) ∙ batch_nth (fs m) k ws b, f), λ n. ap (λ (q : Files). batches_of (q n)) g ∙ is n)
  happens_more (removed m) g = (f, λ n. ap (λ (q : Files). batches_of (q n)) g ∙ batches_put fs m n None ∙ ap (cond (eqb n m) []) (is n))
  happens_more nothing g = (f, λ n. ap (λ (q : Files). batches_of (q n)) g ∙ is n)

-- the state of a run after i calls
abbrev pub Running : Files → Files → List Call → List (Result Answer Cause) → ℕ → Type 0
Running fs gs cs rs i = Faithful (held_by fs) (history [] (take i cs) (take i rs)) × ((n : ℕ) → held_by gs n ≡ appends (held_by fs) (history [] (take i cs) (take i rs)) n)

pub running_more : (fs gs ks : Files) (cs : List Call) (rs : List (Result Answer Cause)) (i : ℕ) (d : Call) (r : Result Answer Cause) → i < length cs → i < length rs → Running fs gs cs rs i → Happens gs (event (get_or cs i d) r) ks → Running fs ks cs (set rs i r) (i + 1)
running_more fs gs ks cs rs i d r lc lr (f, is) g =
    let a = happens_more (held_by fs) gs ks (history [] (take i cs) (take i rs)) f is (event (get_or cs i d) r) g in
    subst (λ (h : List Event). Faithful (held_by fs) h × ((n : ℕ) → held_by ks n ≡ appends (held_by fs) h n)) (sym (history-at cs rs i d r lc lr)) a

module _ {S : Type 0} (steps : S → Ask → Reply → S → Type 0) (s : S) where
  -- and every one of the i calls was made of the store
  abbrev pub Ranging : List Call → List (Result Answer Cause) → S → ℕ → Type 0
  Ranging cs rs t i = Ran steps s (take i cs) (take i rs) t

  pub ranging_more : (t u : S) (cs : List Call) (rs : List (Result Answer Cause)) (i : ℕ) (d : Call) (r : Result Answer Cause) → i < length cs → i < length rs → Ranging cs rs t i → Asked steps t (get_or cs i d) r u → Ranging cs (set rs i r) u (i + 1)
  ranging_more t u cs rs i d r lc lr g a =
      subst (λ (x : List Call). Ran steps s x (take (i + 1) (set rs i r)) u) (sym (take_more cs i d lc))
      (subst (λ (x : List (Result Answer Cause)). Ran steps s (take i cs ++ get_or cs i d ∷ []) x u) (sym (take_more_set rs i r lr)) (more g (get_or cs i d) r u a))

-- the places behind the i answers stay
pub rest_more : {X : Type 0} (old rs : List X) (i : ℕ) (r : X) → drop i rs ≡ drop i old → drop (i + 1) (set rs i r) ≡ drop (i + 1) old
rest_more old rs i r e = drop-set-lt (i + 1) rs i r (omega arith) ∙ sym (drop-drop 1 i rs) ∙ ap (drop 1) e ∙ drop-drop 1 i old

-- what holds of the i answers holds with one more
pub fit_more : {X : Type 0} (P : X → Type 0) (rs : List X) (i : ℕ) (r : X) → i < length rs → All P (take i rs) → P r → All P (take (i + 1) (set rs i r))
fit_more P rs i r lr a f = subst (All P) (sym (take_more_set rs i r lr)) (All-push P (take i rs) r a f)
