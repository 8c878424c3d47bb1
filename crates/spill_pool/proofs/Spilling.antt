-- A push up to the records: what the write and the placing of its record come to. Assumes nothing.
use Rattle.std.proofs.Common.{◌≡◌, ℕ, ◌^◌, ◌<◌, ◌≤◌, Bool, true, false, cond, List, [], ◌∷◌, Some, None, Ok, Err, Option, Result, sym, refl, ap, ◌∙◌, subst, ⊎_elim, arith}
use Rattle.std.specs.List.{AllByRecursion}
use Rattle.std.proofs.lemmas.Bool.{cases_Bool, cond-true, cond-false, cond_both}
use Rattle.bank.specs.declared.Queue.{Queue}
use Rattle.bank.specs.Lists.{older, push}
use Rattle.bank.specs.Banks.{Mem, Keeps}
use Rattle.resources.specs.declared.cause.Cause.{Cause}
use Rattle.resources.specs.declared.cause.Cause.TheVariants.{Device}
use Rattle.resources.specs.Files.{Files, CreateLawful, create_after, append_after, finish_after}
use Rattle.spill_pool.specs.declared.fault.Fault.{Fault}
use Rattle.spill_pool.specs.declared.fault.StoreCall.TheVariants.{Create}
use Rattle.spill_pool.specs.declared.FileRecord.{FileRecord}
use Rattle.spill_pool.specs.declared.OpenFile.{OpenFile}
use Rattle.spill_pool.specs.declared.Push.TheVariants.{Kept, Failed}
use Rattle.spill_pool.specs.Faults.{store_fault}
use Rattle.spill_pool.specs.Meaning.{Setup, Batch, Replies, Used, WriteLawful, NewLawful, is_full, is_spent, new_file, grown, ended, open_file}
use Rattle.spill_pool.specs.Steps.{Written, rotate, write_by, write, push_new, told, listed, swept}
use Rattle.spill_pool.specs.Calls.{current_of, record_of, kept_of, with_read, Shows, parcel, fault_or, Creates, Writes, Settles, FilesAway, PushesOpen, PushesNew}
use Rattle.spill_pool.proofs.Listing.{open_push, open_finished, open_none, all_push_parts}
use Rattle.spill_pool.proofs.Settling.{spent_parts}
use Rattle.spill_pool.proofs.Pushing.{last_parts}

-- what a pool keeps of a file, with what was read of it, and finished if the file is, makes its record again
pub record_current : (y : FileRecord) (rd : ℕ) → y.read ≡ rd → cond y.finished (ended (with_read (record_of (current_of y)) rd)) (with_read (record_of (current_of y)) rd) ≡ y
record_current y rd e = cond_both y.finished _ _ (λ (u : FileRecord). u ≡ y) (by true) (by false)
  where
    by : (f : Bool) → y.finished ≡ f → ◌≡◌ {A = FileRecord} (record { number = y.number; written = y.written; read = rd; sum = y.sum; finished = f }) y
    by f t =
        ap (λ (u : Bool). record { number = y.number; written = y.written; read = rd; sum = y.sum; finished = u }) (sym t)
        ∙ ap (λ (n : ℕ). record { number = y.number; written = y.written; read = n; sum = y.sum; finished = y.finished }) (sym e)

-- what the pool keeps of the last file shows what is open behind finished files
pub shows_listed : (before : List FileRecord) (y : FileRecord) (c : Option OpenFile) → AllByRecursion (λ x. x.finished ≡ true) before → c ≡ kept_of y → Shows c (open_file (listed before y))
shows_listed before y c done e =
    ⊎_elim
    (λ (s : is_spent y ≡ true).
    subst (λ (rs : List FileRecord). Shows c (open_file rs)) (sym (cond-true (is_spent y) before (push before y) s))
    (subst (Shows c) (sym (open_finished before done)) (e ∙ cond-true y.finished None (Some (current_of y)) (spent_parts 0 0 y s).0)))
    (λ (s : is_spent y ≡ false).
    subst (λ (rs : List FileRecord). Shows c (open_file rs)) (sym (cond-false (is_spent y) before (push before y) s))
    (subst (Shows c) (sym (open_push before y)) (cond_both y.finished None (Some y) (Shows c) (λ f. e ∙ cond-true y.finished None (Some (current_of y)) f) (λ f. e ∙ cond-false y.finished None (Some (current_of y)) f))))
    (cases_Bool (is_spent y))

-- a file that was open and is spent now is the only one: others before it would have been read first
pub alone : (before : List FileRecord) (x : FileRecord) → ((before ≡ [] → ⊥) → x.read ≡ 0) → (y : FileRecord) → y.read ≡ x.read → 0 < x.written → x.written ≤ y.written → is_spent y ≡ true → before ≡ []
alone [] x first y er sw le sp = refl
alone (f ∷ before) x first y er sw le sp =
    let n : x.read ≡ 0 = first (λ q. cc) in
    absurd (let u = (spent_parts 0 0 y sp).1 in omega arith)

-- a write leaves what was read, and takes no batch away
module _ (s : Setup) (r : FileRecord) (fs : Files) (b : Batch) (a : Replies) where
  abbrev Goes : Written → Type 0
  Goes v = (v.file.read ≡ r.read) × (r.written ≤ v.file.written)

  write_by_lem : (p : Result (Unit {0}) Cause) → Goes (write_by s r fs b a p)
  write_by_lem (Ok u) = cond_both (is_full s (grown r b.size)) _ _ Goes (λ _. (refl, omega arith)) (λ _. (refl, omega arith))
  write_by_lem (Err c) = (refl, omega arith)

  pub write_keeps : Goes (write s r fs b a)
  unfolding write
  write_keeps = write_by_lem a.append

-- a write does the same whatever was read
module _ (s : Setup) (r : FileRecord) (n : ℕ) (fs : Files) (b : Batch) (a : Replies) where
  abbrev Same : Written → Written → Type 0
  Same v w = (v.answer ≡ w.answer) × (with_read v.file n ≡ w.file) × (v.store ≡ w.store)

  rotate_same : (x : FileRecord) (gs : Files) → Same (rotate s x gs a.finish) (rotate s (with_read x n) gs a.finish)
  rotate_same x gs = elim (is_full s x) as (λ (u : Bool). Same
      (cond u (record { answer = Kept (told s.partition x.number a.finish); file = ended x; store = finish_after gs x.number a.finish }) (record { answer = Kept None; file = x; store = gs }))
      (cond u (record { answer = Kept (told s.partition x.number a.finish); file = ended (with_read x n); store = finish_after gs x.number a.finish }) (record { answer = Kept None; file = with_read x n; store = gs })))
      [ true ↦ (refl, refl, refl) | false ↦ (refl, refl, refl) ]

  same_by : (p : Result (Unit {0}) Cause) → Same (write_by s r fs b a p) (write_by s (with_read r n) fs b a p)
  same_by (Ok u) = rotate_same (grown r b.size) (append_after fs r.number b.words (Ok u))
  same_by (Err c) = (refl, refl, refl)

  pub write_same : Same (write s r fs b a) (write s (with_read r n) fs b a)
  unfolding write
  write_same = same_by a.append

-- what a create that is told as made, or as failed, did
made_by : (p n : ℕ) (fs gs : Files) (y : Result ℕ Cause) → CreateLawful fs y → Ok n ≡ fault_or p Create 0 y → gs ≡ create_after fs y → CreateLawful fs (Ok n) × (gs ≡ create_after fs (Ok n))
made_by p n fs gs (Ok m) l a g = let e : m ≡ n = cc in (subst (λ (u : ℕ). CreateLawful fs (Ok u)) e l, g ∙ ap (λ (u : ℕ). create_after fs (Ok u)) e)
made_by p n fs gs (Err x) l a g = absurd (cc)

unmade_by : (p : ℕ) (f : Fault) (fs gs : Files) (y : Result ℕ Cause) → CreateLawful fs y → Err f ≡ fault_or p Create 0 y → gs ≡ create_after fs y → (x : Cause) × CreateLawful fs (Err x) × (gs ≡ fs) × (f ≡ store_fault p Create 0 x)
unmade_by p f fs gs (Ok m) l a g = absurd (cc)
unmade_by p f fs gs (Err x) l a g = (x, l, g, cc)

module _ (s : Setup) (size : ℕ) (ws : List ℕ) (d : Mem FileRecord) (q : Queue) (d' : Mem FileRecord) (q' : Queue) (fs' : Files) where
  module _ (c : OpenFile) (fs : Files) (c' : Option OpenFile) (f y : FileRecord) (gs : Files) (r : Result (Option Fault) Fault) (made : f ≡ record_of c) (h : Writes s size ws f fs y gs r) (kept : c' ≡ kept_of y) (t : Settles y d q gs d' q' fs') where
    pub pushes_open : PushesOpen s size ws d q c fs d' q' c' fs' r
    pushes_open w rows o m x k show sound most e =
        let l = last_parts w s.maximum m fs sound x e in
        let sx : Some c ≡ Some (current_of x) = subst (Shows (Some c)) e show in
        let cx : c ≡ current_of x = cc in
        let short : c.written < 2 ^ 32 = let a = l.good.short l.open' in let b = ap (λ (u : OpenFile). u.written) cx in omega arith in
        let light : c.sum < 2 ^ 41 = let a = l.good.sum in let b = ap (λ (u : OpenFile). u.sum) cx in omega arith in
        let v = (subst (λ (u : FileRecord). Writes s size ws u fs y gs r) made h) rows (Err Device) refl short light in
        let b = parcel rows size ws in
        let rx : with_read (record_of c) x.read ≡ x = ap (λ (u : OpenFile). with_read (record_of u) x.read) cx ∙ sym (cond-false x.finished _ _ l.open') ∙ record_current x x.read refl in
        let z₀ = write_same s (record_of c) x.read fs b v.replies in
        let z₁ = subst (λ (u : FileRecord). Same s (record_of c) x.read fs b v.replies (write s (record_of c) fs b v.replies) (write s u fs b v.replies)) rx z₀ in
        let to = write s x fs b v.replies in
        let ry : with_read y x.read ≡ to.file = ap (λ (u : FileRecord). with_read u x.read) v.file ∙ z₁.1 in
        let kp = write_keeps s x fs b v.replies in
        let us = (all_push_parts Used (older m.files) x (subst (AllByRecursion Used) l.split sound.used)).1.some in
        let z = t o (older m.files) x (subst (λ (u : List FileRecord). Keeps d (q ∷ o.queues) (u ∷ o.lists)) l.split k) (λ sp. alone (older m.files) x l.first to.file kp.0 us kp.1 (ap is_spent (sym ry) ∙ sp)) in
        record {
          replies = v.replies;
          lawfully = subst (λ (n : ℕ). WriteLawful fs n ws v.replies) (ap (λ (u : OpenFile). u.number) cx) v.lawful;
          answer = ap Ok (v.answer ∙ z₁.0);
          store = z.1 ∙ ap (λ (u : Files). swept u (with_read y x.read)) (v.store ∙ z₁.2) ∙ ap (swept to.store) ry;
          files = subst (λ (u : FileRecord). Keeps d' (q' ∷ o.queues) (listed (older m.files) u ∷ o.lists)) ry z.0;
          current = shows_listed (older m.files) to.file c' sound.order (kept ∙ ap kept_of ry);
        }

  module _ (fs : Files) (n : ℕ) (c₀ c' : Option OpenFile) (f y : FileRecord) (gs hs : Files) (r : Result (Option Fault) Fault) (create : Creates s.partition fs gs (Ok n))
      (new : f ≡ new_file n) (h : Writes s size ws f gs y hs r) (kept : c' ≡ kept_of y) (t : FilesAway y d q hs d' q' fs') where
    pub pushes_new : PushesNew s size ws d q c₀ fs d' q' c' fs' r
    pushes_new w rows o m k show sound e free =
        let c = made_by s.partition n fs gs create.reply create.lawful create.answer create.store in let lawful = c.0 in let made = c.1 in
        let v = (subst (λ (u : FileRecord). Writes s size ws u gs y hs r) new h) rows (Ok n) refl (omega arith) (omega arith) in
        let b = parcel rows size ws in
        let a = v.replies in
        let to = write s (new_file n) (create_after fs (Ok n)) b a in
        let file : y ≡ to.file = v.file ∙ ap (λ (u : Files). (write s (new_file n) u b a).file) made in
        let store : hs ≡ to.store = v.store ∙ ap (λ (u : Files). (write s (new_file n) u b a).store) made in
        let z = t o m.files k free in
        let done = open_none m.files e sound.order in
        let em : Ok n ≡ a.create = sym v.made in
        record {
          replies = a;
          lawfully = subst (λ (u : Result ℕ Cause). CreateLawful fs u × NewLawful fs ws a u) em (lawful, subst (λ (u : Files). WriteLawful u n ws a) made v.lawful);
          answer = ap Ok (v.answer ∙ ap (λ (u : Files). (write s (new_file n) u b a).answer) made) ∙ ap (λ (u : Result ℕ Cause). (push_new s m fs b a u).answer) em;
          store = z.1 ∙ ap (λ (u : Files). swept u y) store ∙ ap (swept to.store) file ∙ ap (λ (u : Result ℕ Cause). (push_new s m fs b a u).store) em;
          files = subst (λ (u : Result ℕ Cause). Keeps d' (q' ∷ o.queues) ((push_new s m fs b a u).next.files ∷ o.lists)) em
              (subst (λ (u : FileRecord). Keeps d' (q' ∷ o.queues) (listed m.files u ∷ o.lists)) file z.0);
          current = subst (λ (u : Result ℕ Cause). Shows c' (open_file (push_new s m fs b a u).next.files)) em (shows_listed m.files to.file c' done (kept ∙ ap kept_of file));
        }

  -- a create that failed
  pub pushes_unmade : (c : Option OpenFile) (fs : Files) (f : Fault) → Creates s.partition fs fs' (Err f) → d' ≡ d → q' ≡ q → PushesNew s size ws d q c fs d' q' c fs' (Err f)
  pushes_unmade c fs f create ed eq w rows o m k show sound e free =
      let u = unmade_by s.partition f fs fs' create.reply create.lawful create.answer create.store in
      record {
        replies = record { create = Err u.0; append = Err Device; finish = Err Device; read = Err Device };
        lawfully = (u.1, tt);
        answer = ap (λ (x : Fault). Ok (Failed x)) u.3;
        store = u.2;
        files = subst (λ (x : Mem FileRecord). Keeps x (q' ∷ o.queues) (m.files ∷ o.lists)) (sym ed) (subst (λ (x : Queue). Keeps d (x ∷ o.queues) (m.files ∷ o.lists)) (sym eq) k);
        current = show;
      }
