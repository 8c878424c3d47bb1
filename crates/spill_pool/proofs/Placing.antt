-- Records in their places, by the bank's laws alone. Assumes nothing.
use Rattle.std.proofs.Common.{◌≡◌, ℕ, ◌+◌, ◌<◌, ◌≤◌, true, false, List, [], ◌∷◌, ◌++◌, length, get_or, take, drop, Some, None, Option, Result, sym, refl, ap, ◌∙◌, subst, arith}
use Rattle.std.proofs.lemmas.List.{drop_more, take_more, drop_all, take_all}
use Rattle.std.proofs.lemmas.Bool.{cond-true, cond-false}
use Rattle.bank.specs.declared.Queue.{Queue}
use Rattle.bank.specs.Lists.{oldest, newest, older, rest, push}
use Rattle.bank.specs.Banks.{Mem, Is, Keeps, Adds, Takes, ReadsNewest, Rewrites}
use Rattle.bank.proofs.Laws.{keeps_len}
use Rattle.resources.specs.Files.{Files, remove_after}
use Rattle.spill_pool.specs.declared.FileRecord.{FileRecord}
use Rattle.spill_pool.specs.Meaning.{is_spent, new_file}
use Rattle.spill_pool.specs.Steps.{listed, ahead, swept, removed}
use Rattle.spill_pool.specs.Calls.{Others, with_read, Settles, FilesAway, Advances, RemovesOldest, Clears, ClearsSome}
use Rattle.spill_pool.proofs.Listing.{newest-push, older-push}

-- the pool's queue comes first
pub first : (q : Queue) (qs : List Queue) → Is (q ∷ qs) 0 q
first q qs = (omega arith, refl)

module _ (d : Mem FileRecord) (q : Queue) (fs : Files) (d' : Mem FileRecord) (q' : Queue) (fs' : Files) where
  pub advances_spent : (y : FileRecord) (t : Option FileRecord) → is_spent y ≡ true → fs' ≡ swept fs y → Takes d q d' q' t → Advances y d q fs d' q' fs'
  advances_spent y t e s a o x behind k =
      let b = a (q ∷ o.queues) ((x ∷ behind) ∷ o.lists) 0 k (first q o.queues) in
      (subst (λ (rs : List FileRecord). Keeps d' (q' ∷ o.queues) (rs ∷ o.lists)) (sym (cond-true (is_spent y) behind (y ∷ behind) e)) b.1, s)

  pub advances_kept : (y : FileRecord) (t : Result FileRecord FileRecord) → is_spent y ≡ false → fs' ≡ swept fs y → q' ≡ q → Rewrites oldest (λ xs. y ∷ rest xs) d q y d' t → Advances y d q fs d' q' fs'
  advances_kept y t e s eq a o x behind k =
      let b = ((a (q ∷ o.queues) ((x ∷ behind) ∷ o.lists) 0 k (first q o.queues)).0 x refl).1 in
      (subst (λ (u : Queue). Keeps d' (u ∷ o.queues) (ahead y behind ∷ o.lists)) (sym eq) (subst (λ (rs : List FileRecord). Keeps d' (q ∷ o.queues) (rs ∷ o.lists)) (sym (cond-false (is_spent y) behind (y ∷ behind) e)) b), s)

  pub removes_oldest : (y : FileRecord) → Takes d q d' q' (Some y) → fs' ≡ remove_after fs y.number → RemovesOldest d q fs d' q' fs'
  removes_oldest y a s o x behind k =
      let b = a (q ∷ o.queues) ((x ∷ behind) ∷ o.lists) 0 k (first q o.queues) in
      let e : y ≡ x = let h = b.0 in cc in
      (b.1, s ∙ ap (λ (u : FileRecord). remove_after fs u.number) e)

  pub removes_none : Takes d q d' q' None → RemovesOldest d q fs d' q' fs'
  removes_none a o x behind k =
      let h = (a (q ∷ o.queues) ((x ∷ behind) ∷ o.lists) 0 k (first q o.queues)).0 in
      absurd (cc)

  pub files_spent : (y : FileRecord) → is_spent y ≡ true → fs' ≡ swept fs y → d' ≡ d → q' ≡ q → FilesAway y d q fs d' q' fs'
  files_spent y e s ed eq o before k l =
      let k' : Keeps d' (q' ∷ o.queues) (before ∷ o.lists) = subst (λ (m : Mem FileRecord). Keeps m (q' ∷ o.queues) (before ∷ o.lists)) (sym ed) (subst (λ (u : Queue). Keeps d (u ∷ o.queues) (before ∷ o.lists)) (sym eq) k) in
      (subst (λ (rs : List FileRecord). Keeps d' (q' ∷ o.queues) (rs ∷ o.lists)) (sym (cond-true (is_spent y) before (push before y) e)) k', s)

  pub files_kept : (y : FileRecord) (t : Result (Unit {0}) FileRecord) → is_spent y ≡ false → fs' ≡ swept fs y → Adds d q y d' q' t → FilesAway y d q fs d' q' fs'
  files_kept y t e s a o before k l =
      let b = ((a (q ∷ o.queues) (before ∷ o.lists) 0 k (first q o.queues)).0 l).1 in
      (subst (λ (rs : List FileRecord). Keeps d' (q' ∷ o.queues) (rs ∷ o.lists)) (sym (cond-false (is_spent y) before (push before y) e)) b, s)

  -- n is the newest record, as it was found
  module _ (y n : FileRecord) (found : ReadsNewest d q (Some n)) (s : fs' ≡ swept fs (with_read y n.read)) where
    is_newest : (o : Others) (before : List FileRecord) (r : FileRecord) → Keeps d (q ∷ o.queues) (push before r ∷ o.lists) → n ≡ r
    is_newest o before r k = let h = found (q ∷ o.queues) (push before r ∷ o.lists) 0 k (first q o.queues) ∙ newest-push before r in cc

    pub settles_spent : (t : Option FileRecord) → is_spent (with_read y n.read) ≡ true → Takes d q d' q' t → Settles y d q fs d' q' fs'
    settles_spent t e a o before r k one =
        let er : with_read y n.read ≡ with_read y r.read = ap (λ (u : FileRecord). with_read y u.read) (is_newest o before r k) in
        let e' : is_spent (with_read y r.read) ≡ true = ap is_spent (sym er) ∙ e in
        let b = (a (q ∷ o.queues) (push before r ∷ o.lists) 0 k (first q o.queues)).1 in
        let only : rest (push before r) ≡ listed before (with_read y r.read) = ap (λ (u : List FileRecord). rest (push u r)) (one e') ∙ sym (one e') ∙ sym (cond-true (is_spent (with_read y r.read)) before (push before (with_read y r.read)) e') in
        (subst (λ (rs : List FileRecord). Keeps d' (q' ∷ o.queues) (rs ∷ o.lists)) only b, s ∙ ap (swept fs) er)

    pub settles_kept : (t : Result FileRecord FileRecord) → is_spent (with_read y n.read) ≡ false → q' ≡ q → Rewrites newest (λ xs. push (older xs) (with_read y n.read)) d q (with_read y n.read) d' t → Settles y d q fs d' q' fs'
    settles_kept t e eq a o before r k one =
        let er : with_read y n.read ≡ with_read y r.read = ap (λ (u : FileRecord). with_read y u.read) (is_newest o before r k) in
        let e' : is_spent (with_read y r.read) ≡ false = ap is_spent (sym er) ∙ e in
        let b = ((a (q ∷ o.queues) (push before r ∷ o.lists) 0 k (first q o.queues)).0 r (newest-push before r)).1 in
        let rs_is : push (older (push before r)) (with_read y n.read) ≡ listed before (with_read y r.read) = ap (λ (u : List FileRecord). push u (with_read y n.read)) (older-push before r) ∙ ap (push before) er ∙ sym (cond-false (is_spent (with_read y r.read)) before (push before (with_read y r.read)) e') in (
          subst (λ (u : Queue). Keeps d' (u ∷ o.queues) (listed before (with_read y r.read) ∷ o.lists)) (sym eq) (subst (λ (rs : List FileRecord). Keeps d' (q ∷ o.queues) (rs ∷ o.lists)) rs_is b),
          s ∙ ap (swept fs) er,
        )

  pub settles_none : (y : FileRecord) → ReadsNewest d q None → Settles y d q fs d' q' fs'
  settles_none y found o before r k one =
      let h = found (q ∷ o.queues) (push before r ∷ o.lists) 0 k (first q o.queues) ∙ newest-push before r in
      absurd (cc)

removed-push : (fs : Files) (rs : List FileRecord) (r : FileRecord) → removed fs (rs ++ r ∷ []) ≡ remove_after (removed fs rs) r.number
removed-push fs [] r = refl
removed-push fs (x ∷ xs) r = removed-push (remove_after fs x.number) xs r

pub clears_none : (d : Mem FileRecord) (q : Queue) (fs : Files) → ClearsSome 0 d q fs d q fs
clears_none d q fs o rs k = (k, refl)

pub clears_more : (i : ℕ) (d : Mem FileRecord) (q : Queue) (fs : Files) (d' : Mem FileRecord) (q' : Queue) (fs' : Files) (d'' : Mem FileRecord) (q'' : Queue) (fs'' : Files) →
    i < q.len → ClearsSome i d q fs d' q' fs' → RemovesOldest d' q' fs' d'' q'' fs'' → ClearsSome (i + 1) d q fs d'' q'' fs''
clears_more i d q fs d' q' fs' d'' q'' fs'' l s a o rs k =
    let b = s o rs k in
    let n = keeps_len d (q ∷ o.queues) (rs ∷ o.lists) 0 q k (first q o.queues) in
    let lt : i < length rs = omega arith in
    let x = get_or rs i (new_file 0) in
    let c = a o x (drop (i + 1) rs) (subst (λ (u : List FileRecord). Keeps d' (q' ∷ o.queues) (u ∷ o.lists)) (drop_more rs i (new_file 0) lt) b.0) in (
      c.0,
      c.1 ∙ ap (λ (u : Files). remove_after u x.number) b.1 ∙ sym (removed-push fs (take i rs) x) ∙ ap (removed fs) (sym (take_more rs i (new_file 0) lt)),
    )

pub clears_all : (i : ℕ) (d : Mem FileRecord) (q : Queue) (fs : Files) (d' : Mem FileRecord) (q' : Queue) (fs' : Files) → i ≡ q.len → ClearsSome i d q fs d' q' fs' → Clears d q fs d' q' fs'
clears_all i d q fs d' q' fs' e s o rs k =
    let b = s o rs k in
    let n = keeps_len d (q ∷ o.queues) (rs ∷ o.lists) 0 q k (first q o.queues) in
    let l : length rs ≤ i = omega arith in (
      subst (λ (u : List FileRecord). Keeps d' (q' ∷ o.queues) (u ∷ o.lists)) (drop_all i rs l) b.0,
      b.1 ∙ ap (removed fs) (take_all i rs l),
    )
