-- A push: the pool stays sound, what is unread gains the batch if it was kept, and nothing else in the store changes. Assumes nothing.
use Rattle.std.proofs.Common.{◌≡◌, ℕ, ◌^◌, ◌≤◌, Bool, true, false, not, ◌||◌, eqb, ◌⊎◌, List, [], ◌∷◌, ◌++◌, map, is_some, Some, None, Ok, Err, Option, Result, sym, refl, ap, ◌∙◌, subst, inl, inr, ⊎_elim, arith}
use Rattle.std.specs.List.{AllByRecursion}
use Rattle.std.proofs.lemmas.List.{append-nil, append_assoc}
use Rattle.std.proofs.lemmas.Bool.{cases_Bool, cond-true, cond_both, eqb-true, eqb-false, or_cases, or_left, or_right, both_ways}
use Rattle.refusal.specs.declared.Refusal.{Refusal}
use Rattle.bank.specs.Lists.{older, rest, push}
use Rattle.resources.specs.declared.cause.Cause.{Cause}
use Rattle.resources.specs.Files.{File, Files, put, fresh, remove_after, CreateLawful}
use Rattle.spill_pool.specs.declared.FileRecord.{FileRecord}
use Rattle.spill_pool.specs.declared.Push.{Push}
use Rattle.spill_pool.specs.Meaning.{Setup, Pool, Facts, Replies, Kind, Lawful, batch_of, Stored, Used, Sound, Frame, Apart, is_spent, new_file, open_file, among, left, unread, PushLawful, PushLawfulAt}
use Rattle.spill_pool.specs.Steps.{Out, listed, swept, Written, write, settle, push_new, push_to, push_step}
use Rattle.spill_pool.specs.Histories.{keeps}
use Rattle.spill_pool.proofs.Listing.{put_here, put_there, agree_put, newest_split, open_some, open_none, all_push_parts, rest-push_parts, rest-push_last, among-push_parts, apart_push_parts, differ}
use Rattle.spill_pool.proofs.Settling.{AllStored, stored_agree, unread_agree, unread-push, listed_sound, listed-unread}
use Rattle.spill_pool.proofs.Writing.{Wrote, wrote}

-- what is among the files with one more behind, or not
among-push_cases : (j : ℕ) (rs : List FileRecord) (r : FileRecord) → among j (push rs r) ≡ true → (among j rs ≡ true) ⊎ (eqb r.number j ≡ true)
among-push_cases j [] r e = ⊎_elim (λ (h : eqb r.number j ≡ true). inr h) (λ (h : false ≡ true). absurd (both_ways false refl h)) (or_cases (eqb r.number j) false e)
among-push_cases j (x ∷ xs) r e =
    ⊎_elim
    (λ (h : eqb x.number j ≡ true). inl (or_left _ _ h))
    (λ (h : among j (push xs r) ≡ true). ⊎_elim (λ (u : among j xs ≡ true). inl (or_right _ _ u)) (λ (u : eqb r.number j ≡ true). inr u) (among-push_cases j xs r h))
    (or_cases (eqb x.number j) (among j (push xs r)) e)

module _ (before : List FileRecord) (y : FileRecord) where
  listed_true : (j : ℕ) → among j (listed before y) ≡ true → (among j before ≡ true) ⊎ (eqb y.number j ≡ true)
  listed_true j = cond_both (is_spent y) before (push before y) (λ (rs : List FileRecord). among j rs ≡ true → (among j before ≡ true) ⊎ (eqb y.number j ≡ true)) (λ _ e. inl e) (λ _ e. among-push_cases j before y e)

  listed_false : (j : ℕ) → among j (listed before y) ≡ false → (among j before ≡ false) × ((is_spent y ≡ true) ⊎ (eqb y.number j ≡ false))
  listed_false j =
      cond_both (is_spent y) before (push before y) (λ (rs : List FileRecord). among j rs ≡ false → (among j before ≡ false) × ((is_spent y ≡ true) ⊎ (eqb y.number j ≡ false)))
      (λ s e. (e, inl s)) (λ _ e. let p = among-push_parts j before y e in (p.0, inr p.1))

pub swept_here : (gs : Files) (y : FileRecord) → is_spent y ≡ true → swept gs y y.number ≡ None
swept_here gs y e = ap (λ (hs : Files). hs y.number) (cond-true (is_spent y) (remove_after gs y.number) gs e) ∙ put_here gs y.number None

pub swept_there : (gs : Files) (y : FileRecord) (j : ℕ) → eqb y.number j ≡ false → swept gs y j ≡ gs j
swept_there gs y j e = cond_both (is_spent y) (remove_after gs y.number) gs (λ (hs : Files). hs j ≡ gs j) (λ _. put_there gs y.number j None e) (λ _. refl)

-- a call that changes no file
pub frame_same : (rs : List FileRecord) (fs : Files) → Frame rs fs rs fs
frame_same rs fs = record { others = λ _ _ _. refl; gone = λ n a b. absurd (both_ways (among n rs) b a); new = λ n a b. absurd (both_ways (among n rs) a b) }

-- what is known after a push
pub record Pushed {P : Type 0} (k : Kind P) (s : Setup) (x : P) (m : Pool) (fs : Files) (o : Out (Result Push Refusal)) : Type 0 where
  pub sound : Sound k.width s.maximum o.store o.next
  pub frame : Frame m.files fs o.next.files o.store
  pub unread : unread k.reading o.store o.next.files ≡ unread k.reading fs m.files ++ keeps x o.answer

module _ {P : Type 0} (k : Kind P) (s : Setup) where
  -- The write v to the file r behind `before`, where the store is gs: the file stood there or is new.
  module _ (before : List FileRecord) (r : FileRecord) (n : ℕ) (gs : Files) (v : Written) (added : List P) (w : Wrote k s r gs v added)
      (stored : AllStored k.width s.maximum gs before) (used : AllByRecursion Used before) (fresh : AllByRecursion (λ y. y.read ≡ 0) (rest before))
      (done : AllByRecursion (λ y. y.finished ≡ true) before) (apart : Apart before) (new : among r.number before ≡ false)
      (first : (before ≡ [] → ⊥) → r.read ≡ 0) (idle : n ≡ 0 → v.file.finished ≡ true) where
    new' : among v.file.number before ≡ false
    new' = ap (λ (j : ℕ). among j before) w.same ∙ new

    good' : Stored k.width s.maximum (v.store v.file.number) v.file
    good' = subst (λ (j : ℕ). Stored k.width s.maximum (v.store j) v.file) (sym w.same) w.good

    agree : (j : ℕ) → among j before ≡ true → v.store j ≡ gs j
    agree j e = w.others j (differ before r.number j new e)

    pub settle_sound : Sound k.width s.maximum (settle before n v).store (settle before n v).next
    settle_sound =
        listed_sound k.width s.maximum before v.file v.store n
        (stored_agree k.width s.maximum gs v.store before agree stored) used fresh done apart new' good' w.some
        (λ e. w.read ∙ first e) idle

    pub settle-unread : unread k.reading (settle before n v).store (settle before n v).next.files ≡ (unread k.reading gs before ++ map k.reading (left (gs r.number) r)) ++ added
    settle-unread =
        listed-unread k.width s.maximum before v.file v.store n
        (stored_agree k.width s.maximum gs v.store before agree stored) used fresh done apart new' good' w.some
        (λ e. w.read ∙ first e) idle k.reading
        ∙ ap (λ (u : List P). u ++ map k.reading (left (v.store v.file.number) v.file)) (unread_agree k.width s.maximum k.reading gs v.store before agree)
        ∙ ap (λ (j : ℕ). unread k.reading gs before ++ map k.reading (left (v.store j) v.file)) w.same
        ∙ ap (λ (u : List P). unread k.reading gs before ++ u) w.unread
        ∙ sym (append_assoc (unread k.reading gs before) (map k.reading (left (gs r.number) r)) added)

    settle_there : (j : ℕ) → eqb r.number j ≡ false → (settle before n v).store j ≡ gs j
    settle_there j e = swept_there v.store v.file j (ap (λ (u : ℕ). eqb u j) w.same ∙ e) ∙ w.others j e

    settle_here : is_spent v.file ≡ true → (j : ℕ) → eqb r.number j ≡ true → (settle before n v).store j ≡ None
    settle_here e j h = ap (swept v.store v.file) (sym (eqb-true r.number j h) ∙ sym w.same) ∙ swept_here v.store v.file e

    number_cases : (j : ℕ) → among j (settle before n v).next.files ≡ false → (among j before ≡ false) × ((is_spent v.file ≡ true) ⊎ (eqb r.number j ≡ false))
    number_cases j e = let p = listed_false before v.file j e in (p.0, ⊎_elim (λ (h : is_spent v.file ≡ true). inl h) (λ (h : eqb v.file.number j ≡ false). inr (ap (λ (u : ℕ). eqb u j) (sym w.same) ∙ h)) p.1)

    number_here : (j : ℕ) → among j (settle before n v).next.files ≡ true → (among j before ≡ true) ⊎ (eqb r.number j ≡ true)
    number_here j e = ⊎_elim (λ (h : among j before ≡ true). inl h) (λ (h : eqb v.file.number j ≡ true). inr (ap (λ (u : ℕ). eqb u j) (sym w.same) ∙ h)) (listed_true before v.file j e)

    -- the file stood in the list
    pub frame_old : Frame (push before r) gs (settle before n v).next.files (settle before n v).store
    frame_old = record {
      others = λ j a _. settle_there j (among-push_parts j before r a).1;
      gone = λ j a b. let c = number_cases j b in
          ⊎_elim (λ (h : among j before ≡ true). absurd (both_ways (among j before) c.0 h))
          (λ (h : eqb r.number j ≡ true). ⊎_elim (λ (e : is_spent v.file ≡ true). settle_here e j h) (λ (e : eqb r.number j ≡ false). absurd (both_ways (eqb r.number j) e h)) c.1)
          (among-push_cases j before r a);
      new = λ j a b. let p = among-push_parts j before r a in
          ⊎_elim (λ (h : among j before ≡ true). absurd (both_ways (among j before) p.0 h)) (λ (h : eqb r.number j ≡ true). absurd (both_ways (eqb r.number j) p.1 h)) (number_here j b);
    }

    -- the file was created in a store where its number was unused
    pub frame_new : (fs : Files) → fs r.number ≡ None → ((j : ℕ) → eqb r.number j ≡ false → gs j ≡ fs j) → Frame before fs (settle before n v).next.files (settle before n v).store
    frame_new fs none same = record {
      others = λ j a b. let c = number_cases j b in
          ⊎_elim
          (λ (h : eqb r.number j ≡ true). ⊎_elim (λ (e : is_spent v.file ≡ true). settle_here e j h ∙ sym (ap fs (sym (eqb-true r.number j h)) ∙ none)) (λ (e : eqb r.number j ≡ false). absurd (both_ways (eqb r.number j) e h)) c.1)
          (λ (h : eqb r.number j ≡ false). settle_there j h ∙ same j h)
          (cases_Bool (eqb r.number j));
      gone = λ j a b. absurd (both_ways (among j before) (number_cases j b).0 a);
      new = λ j a b.
          ⊎_elim (λ (h : among j before ≡ true). absurd (both_ways (among j before) a h)) (λ (h : eqb r.number j ≡ true). ap fs (sym (eqb-true r.number j h)) ∙ none) (number_here j b);
    }

-- a pool with an open file r: the older files, and that one
pub record Last (w maximum : ℕ) (m : Pool) (fs : Files) (r : FileRecord) : Type 0 where
  pub split : m.files ≡ push (older m.files) r
  pub open' : r.finished ≡ false
  pub stored : AllStored w maximum fs (older m.files)
  pub good : Stored w maximum (fs r.number) r
  pub used : AllByRecursion Used (older m.files)
  pub fresh : AllByRecursion (λ y. y.read ≡ 0) (rest (older m.files))
  pub first : (older m.files ≡ [] → ⊥) → r.read ≡ 0
  pub apart : Apart (older m.files)
  pub new : among r.number (older m.files) ≡ false

pub last_parts : (w maximum : ℕ) (m : Pool) (fs : Files) → Sound w maximum fs m → (r : FileRecord) → open_file m.files ≡ Some r → Last w maximum m fs r
last_parts w maximum m fs sound r e =
    let o = open_some m.files r e in
    let split : m.files ≡ push (older m.files) r = newest_split m.files r o.0 in
    let st = all_push_parts (λ y. Stored w maximum (fs y.number) y) (older m.files) r (subst (AllStored w maximum fs) split sound.stored) in
    let us = all_push_parts Used (older m.files) r (subst (AllByRecursion Used) split sound.used) in
    let fr : AllByRecursion (λ y. y.read ≡ 0) (rest (push (older m.files) r)) = subst (λ (u : List FileRecord). AllByRecursion (λ y. y.read ≡ 0) (rest u)) split sound.fresh in
    let ap' = apart_push_parts (older m.files) r (subst Apart split sound.apart) in
    record {
      split = split;
      open' = o.1;
      stored = st.0;
      good = st.1;
      used = us.0;
      fresh = rest-push_parts (λ y. y.read ≡ 0) (older m.files) r fr;
      first = rest-push_last (λ y. y.read ≡ 0) (older m.files) r fr;
      apart = ap'.0;
      new = ap'.1;
    }

module _ {P : Type 0} (k : Kind P) (law : Lawful k) (s : Setup) (most : s.maximum ≤ 2 ^ 40) (x : P) where
  module _ (f : Facts) (m : Pool) (fs : Files) (sound : Sound k.width s.maximum fs m) (a : Replies) where
    stays : (r : Result Push Refusal) → keeps x r ≡ [] → Pushed k s x m fs (record { answer = r; next = m; store = fs })
    stays r e = record { sound = sound; frame = frame_same m.files fs; unread = sym (append-nil _) ∙ ap (λ (u : List P). unread k.reading fs m.files ++ u) (sym e) }

    -- the open file is written to
    to_open : (eqb m.sinks 0 ≡ false) → (r : FileRecord) → open_file m.files ≡ Some r → Pushed k s x m fs (settle (older m.files) m.sinks (write s r fs (batch_of k x) a))
    to_open z r e =
        let o = last_parts k.width s.maximum m fs sound r e in
        let v = write s r fs (batch_of k x) a in
        let w = wrote k law s most x r fs o.open' o.good a in
        let idle : m.sinks ≡ 0 → v.file.finished ≡ true = λ q. absurd (eqb-false m.sinks 0 z q) in
        let plus = keeps x (Ok v.answer) in
        record {
          sound = settle_sound k s (older m.files) r m.sinks fs v plus w o.stored o.used o.fresh sound.order o.apart o.new o.first idle;
          frame = subst (λ (u : List FileRecord). Frame u fs (listed (older m.files) v.file) (swept v.store v.file)) (sym o.split)
              (frame_old k s (older m.files) r m.sinks fs v plus w o.stored o.used o.fresh sound.order o.apart o.new o.first idle);
          unread = settle-unread k s (older m.files) r m.sinks fs v plus w o.stored o.used o.fresh sound.order o.apart o.new o.first idle
              ∙ ap (λ (u : List P). u ++ plus) (sym (unread-push k.width s.maximum k.reading fs (older m.files) r) ∙ ap (unread k.reading fs) (sym o.split));
        }

    unused : (rs : List FileRecord) → AllStored k.width s.maximum fs rs → (n : ℕ) → fs n ≡ None → among n rs ≡ false
    unused [] st n e = refl
    unused (r ∷ rs) (p, q) n e =
        ⊎_elim
        (λ (h : eqb r.number n ≡ true). absurd (both_ways false refl (sym (ap is_some (ap fs (eqb-true r.number n h) ∙ e)) ∙ p.there)))
        (λ (h : eqb r.number n ≡ false). ap (λ (b : Bool). b || among n rs) h ∙ unused rs q n e)
        (cases_Bool (eqb r.number n))

    new_stored : (n : ℕ) → Stored k.width s.maximum (put fs n (Some fresh) n) (new_file n)
    new_stored n = subst (λ (o : Option File). Stored k.width s.maximum o (new_file n)) (sym (put_here fs n (Some fresh)))
        (record { there = refl; written = refl; wide = tt; read = omega arith; most = omega arith; sum = omega arith; live = λ _. refl; short = λ _. omega arith; light = λ _. omega arith })

    to_new : (eqb m.sinks 0 ≡ false) → open_file m.files ≡ None → (c : Result ℕ Cause) → CreateLawful fs c → Pushed k s x m fs (push_new s m fs (batch_of k x) a c)
    to_new z e (Ok n) (p, q, none) =
        let gs : Files = put fs n (Some fresh) in
        let out = unused m.files sound.stored n none in
        let ag = agree_put m.files fs n (Some fresh) out in
        let st = stored_agree k.width s.maximum fs gs m.files ag sound.stored in
        let v = write s (new_file n) gs (batch_of k x) a in
        let w = wrote k law s most x (new_file n) gs refl (new_stored n) a in
        let done = open_none m.files e sound.order in
        let idle : m.sinks ≡ 0 → v.file.finished ≡ true = λ q. absurd (eqb-false m.sinks 0 z q) in
        let plus = keeps x (Ok v.answer) in
        record {
          sound = settle_sound k s m.files (new_file n) m.sinks gs v plus w st sound.used sound.fresh done sound.apart out (λ _. refl) idle;
          frame = frame_new k s m.files (new_file n) m.sinks gs v plus w st sound.used sound.fresh done sound.apart out (λ _. refl) idle fs none (λ j h. put_there fs n j (Some fresh) h);
          unread = settle-unread k s m.files (new_file n) m.sinks gs v plus w st sound.used sound.fresh done sound.apart out (λ _. refl) idle
              ∙ ap (λ (u : List P). (unread k.reading gs m.files ++ u) ++ keeps x (Ok v.answer)) (ap (λ (o : Option File). map k.reading (left o (new_file n))) (put_here fs n (Some fresh)))
              ∙ ap (λ (u : List P). u ++ keeps x (Ok v.answer)) (append-nil _ ∙ unread_agree k.width s.maximum k.reading fs gs m.files ag);
        }
    to_new z e (Err c) l = stays _ refl

    pushed_to : (eqb m.sinks 0 ≡ false) → (o : Option FileRecord) → open_file m.files ≡ o → PushLawfulAt fs (k.words x) a o → Pushed k s x m fs (push_to s f m fs (batch_of k x) a o)
    pushed_to z (Some r) e l = to_open z r e
    pushed_to z None e (l, _) = cond_both (eqb f.places 0) _ _ (Pushed k s x m fs) (λ _. stays _ refl) (λ _. to_new z e a.create l)

    pub pushed : PushLawful fs m (batch_of k x) a → Pushed k s x m fs (push_step s f m fs (batch_of k x) a)
    unfolding push_step
    pushed l =
        cond_both (not f.fit) _ _ (Pushed k s x m fs) (λ _. stays _ refl)
        (λ _. cond_both (eqb m.sinks 0) _ _ (Pushed k s x m fs) (λ _. stays _ refl)
        (λ z. cond_both (eqb (k.rows x) 0) _ _ (Pushed k s x m fs) (λ _. stays _ refl) (λ _. pushed_to z (open_file m.files) refl l)))
