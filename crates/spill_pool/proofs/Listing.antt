-- Lists by their newest element, and which numbers are among the files of a list. Assumes nothing.
use Rattle.std.proofs.Common.{◌≡◌, ℕ, true, false, cond, eqb, List, [], ◌∷◌, Some, None, Option, sym, refl, ap, ◌∙◌, subst, ⊎_elim}
use Rattle.std.specs.List.{AllByRecursion}
use Rattle.std.proofs.ByRecursion.{All-push}
use Rattle.std.proofs.lemmas.Bool.{cases_Bool, cond-true, cond-false, eq-eqb, ne_eqb, eqb-true, eqb-false, or_parts, or_from, or_left, or_right, or_cases, both_ways}
use Rattle.bank.specs.Lists.{newest, older, rest, push}
use Rattle.resources.specs.Files.{File, Files, put}
use Rattle.spill_pool.specs.declared.FileRecord.{FileRecord}
use Rattle.spill_pool.specs.Meaning.{unfinished, open_file, among, Apart}

module _ {T : Type 0} where
  pub newest-push : (xs : List T) (x : T) → newest (push xs x) ≡ Some x
  newest-push [] x = refl
  newest-push (y ∷ []) x = refl
  newest-push (y ∷ (z ∷ zs)) x = newest-push (z ∷ zs) x

  pub older-push : (xs : List T) (x : T) → older (push xs x) ≡ xs
  older-push [] x = refl
  older-push (y ∷ []) x = refl
  older-push (y ∷ (z ∷ zs)) x = ap (λ (u : List T). y ∷ u) (older-push (z ∷ zs) x)

  -- a list with a newest element is the older ones and that one
  pub newest_split : (xs : List T) (x : T) → newest xs ≡ Some x → xs ≡ push (older xs) x
  newest_split [] x e = absurd (cc)
  newest_split (y ∷ []) x e = cc
  newest_split (y ∷ (z ∷ zs)) x e = ap (λ (u : List T). y ∷ u) (newest_split (z ∷ zs) x e)

  pub newest-none : (xs : List T) → newest xs ≡ None → xs ≡ []
  newest-none [] e = refl
  newest-none (y ∷ []) e = absurd (cc)
  newest-none (y ∷ (z ∷ zs)) e = absurd (let q : z ∷ zs ≡ [] = newest-none (z ∷ zs) e in cc)

  pub all_push_parts : (P : T → Type 0) (xs : List T) (x : T) → AllByRecursion P (push xs x) → AllByRecursion P xs × P x
  all_push_parts P [] x (p, q) = (tt, p)
  all_push_parts P (y ∷ ys) x (p, q) = let r = all_push_parts P ys x q in ((p, r.0), r.1)

  pub all_rest : (P : T → Type 0) (xs : List T) → AllByRecursion P xs → AllByRecursion P (rest xs)
  all_rest P [] a = tt
  all_rest P (y ∷ ys) (p, q) = q

  -- of all but the first of a longer list
  pub rest-push : (P : T → Type 0) (xs : List T) (x : T) → AllByRecursion P (rest xs) → (xs ≡ [] → ⊥) → P x → AllByRecursion P (rest (push xs x))
  rest-push P [] x a n p = absurd (n refl)
  rest-push P (y ∷ ys) x a n p = All-push P ys x a p

  pub rest-push_parts : (P : T → Type 0) (xs : List T) (x : T) → AllByRecursion P (rest (push xs x)) → AllByRecursion P (rest xs)
  rest-push_parts P [] x a = tt
  rest-push_parts P (y ∷ ys) x a = (all_push_parts P ys x a).0

  pub rest-push_last : (P : T → Type 0) (xs : List T) (x : T) → AllByRecursion P (rest (push xs x)) → (xs ≡ [] → ⊥) → P x
  rest-push_last P [] x a n = absurd (n refl)
  rest-push_last P (y ∷ ys) x a n = (all_push_parts P ys x a).1

-- the open file is the newest, and it is not finished
pub open_some : (rs : List FileRecord) (r : FileRecord) → open_file rs ≡ Some r → (newest rs ≡ Some r) × (r.finished ≡ false)
open_some rs r e = by (newest rs) refl
  where
    by : (o : Option FileRecord) → newest rs ≡ o → (newest rs ≡ Some r) × (r.finished ≡ false)
    by None n = absurd (let q : unfinished (newest rs) ≡ None = ap unfinished n in cc)
    by (Some x) n =
        let q : cond x.finished None (Some x) ≡ Some r = sym (ap unfinished n) ∙ e in
        ⊎_elim
        (λ (t : x.finished ≡ true). absurd (let u : cond x.finished None (Some x) ≡ None = cond-true _ _ _ t in cc))
        (λ (t : x.finished ≡ false). let u : cond x.finished None (Some x) ≡ Some x = cond-false _ _ _ t in let v : x ≡ r = cc in (n ∙ ap Some v, ap (λ (w : FileRecord). w.finished) (sym v) ∙ t))
        (cases_Bool x.finished)

-- without an open file all are finished
pub open_none : (rs : List FileRecord) → open_file rs ≡ None → AllByRecursion (λ r. r.finished ≡ true) (older rs) → AllByRecursion (λ r. r.finished ≡ true) rs
open_none rs e a = by (newest rs) refl
  where
    by : (o : Option FileRecord) → newest rs ≡ o → AllByRecursion (λ r. r.finished ≡ true) rs
    by None n = subst (AllByRecursion (λ r. r.finished ≡ true)) (sym (newest-none rs n)) tt
    by (Some x) n =
        ⊎_elim
        (λ (t : x.finished ≡ true). subst (AllByRecursion (λ r. r.finished ≡ true)) (sym (newest_split rs x n)) (All-push (λ r. r.finished ≡ true) (older rs) x a t))
        (λ (t : x.finished ≡ false). absurd (let u : cond x.finished None (Some x) ≡ Some x = cond-false _ _ _ t in let q : cond x.finished None (Some x) ≡ None = sym (ap unfinished n) ∙ e in cc))
        (cases_Bool x.finished)

pub open_push : (rs : List FileRecord) (r : FileRecord) → open_file (push rs r) ≡ unfinished (Some r)
open_push rs r = ap unfinished (newest-push rs r)

-- a list of finished files has no open one
pub open_finished : (rs : List FileRecord) → AllByRecursion (λ r. r.finished ≡ true) rs → open_file rs ≡ None
open_finished [] a = refl
open_finished (r ∷ []) (p, q) = cond-true r.finished None (Some r) p
open_finished (r ∷ (s ∷ rs)) (p, q) = open_finished (s ∷ rs) q

eqb_sym : (a b : ℕ) → eqb a b ≡ false → eqb b a ≡ false
eqb_sym a b e = ne_eqb b a (λ q. eqb-false a b e (sym q))

pub among-push : (n : ℕ) (rs : List FileRecord) (r : FileRecord) → among n rs ≡ false → eqb r.number n ≡ false → among n (push rs r) ≡ false
among-push n [] r a e = or_from _ _ e refl
among-push n (x ∷ xs) r a e = let p = or_parts (eqb x.number n) (among n xs) a in or_from _ _ p.0 (among-push n xs r p.1 e)

pub among-push_parts : (n : ℕ) (rs : List FileRecord) (r : FileRecord) → among n (push rs r) ≡ false → (among n rs ≡ false) × (eqb r.number n ≡ false)
among-push_parts n [] r a = (refl, (or_parts _ _ a).0)
among-push_parts n (x ∷ xs) r a =
    let p = or_parts (eqb x.number n) (among n (push xs r)) a in let q = among-push_parts n xs r p.1 in
    (or_from _ _ p.0 q.0, q.1)

pub among_here : (rs : List FileRecord) (r : FileRecord) → among r.number (push rs r) ≡ true
among_here [] r = or_left _ _ (eq-eqb r.number r.number refl)
among_here (x ∷ xs) r = or_right _ _ (among_here xs r)

pub among-push_true : (n : ℕ) (rs : List FileRecord) (r : FileRecord) → among n rs ≡ true → among n (push rs r) ≡ true
among-push_true n [] r a = absurd (both_ways false refl a)
among-push_true n (x ∷ xs) r a =
    ⊎_elim
    (λ (e : eqb x.number n ≡ true). or_left _ _ e)
    (λ (e : among n xs ≡ true). or_right _ _ (among-push_true n xs r e))
    (or_cases (eqb x.number n) (among n xs) a)

pub apart_push : (rs : List FileRecord) (r : FileRecord) → Apart rs → among r.number rs ≡ false → Apart (push rs r)
apart_push [] r a e = (refl, tt)
apart_push (x ∷ xs) r (p, q) e =
    let o = or_parts (eqb x.number r.number) (among r.number xs) e in
    (among-push x.number xs r p (eqb_sym x.number r.number o.0), apart_push xs r q o.1)

pub apart_push_parts : (rs : List FileRecord) (r : FileRecord) → Apart (push rs r) → Apart rs × (among r.number rs ≡ false)
apart_push_parts [] r a = (tt, refl)
apart_push_parts (x ∷ xs) r (p, q) =
    let o = among-push_parts x.number xs r p in let s = apart_push_parts xs r q in
    ((o.0, s.0), or_from _ _ (eqb_sym r.number x.number o.1) s.1)

-- the store has the files of these numbers in common
abbrev pub Agree : List FileRecord → Files → Files → Type 0
Agree rs fs gs = (n : ℕ) → among n rs ≡ true → gs n ≡ fs n

pub put_here : (fs : Files) (n : ℕ) (o : Option File) → put fs n o n ≡ o
put_here fs n o = cond-true (eqb n n) o (fs n) (eq-eqb n n refl)

pub put_there : (fs : Files) (n k : ℕ) (o : Option File) → eqb n k ≡ false → put fs n o k ≡ fs k
put_there fs n k o e = cond-false (eqb k n) o (fs k) (eqb_sym n k e)

pub differ : (rs : List FileRecord) (n k : ℕ) → among n rs ≡ false → among k rs ≡ true → eqb n k ≡ false
differ rs n k a b =
    ⊎_elim
    (λ (e : eqb n k ≡ true). absurd (both_ways (among n rs) a (subst (λ (u : ℕ). among u rs ≡ true) (sym (eqb-true n k e)) b)))
    (λ (e : eqb n k ≡ false). e)
    (cases_Bool (eqb n k))

pub agree_put : (rs : List FileRecord) (fs : Files) (n : ℕ) (o : Option File) → among n rs ≡ false → Agree rs fs (put fs n o)
agree_put rs fs n o a k b = put_there fs n k o (differ rs n k a b)

pub agree_both : (rs : List FileRecord) (fs gs hs : Files) → Agree rs fs gs → Agree rs gs hs → Agree rs fs hs
agree_both rs fs gs hs a b k e = b k e ∙ a k e
