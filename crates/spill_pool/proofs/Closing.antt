-- The last close, and removing all: the pool stays sound, and nothing else in the store changes. Assumes nothing.
use Rattle.std.proofs.Common.{◌≡◌, ℕ, ◌-◌, ◌<◌, ◌≤◌, true, false, not, eqb, List, [], ◌∷◌, map, drop, is_some, Some, None, Ok, Err, Option, Result, sym, refl, ap, ◌∙◌, subst, ⊎_elim, arith}
use Rattle.std.proofs.lemmas.List.{append-nil}
use Rattle.std.proofs.lemmas.Bool.{cond_both, eqb-true, eqb-false, or_cases, or_parts, and_cases, both_ways}
use Rattle.bank.specs.Lists.{older}
use Rattle.resources.specs.declared.cause.Cause.{Cause}
use Rattle.resources.specs.Files.{File, Files, put, shut, finish_after, remove_after}
use Rattle.resources.specs.History.{batches_of}
use Rattle.spill_pool.specs.declared.FileRecord.{FileRecord}
use Rattle.spill_pool.specs.declared.Push.TheVariants.{Skipped}
use Rattle.spill_pool.specs.Meaning.{Setup, Pool, Facts, Replies, Kind, Stored, Sound, Frame, is_spent, ended, open_file, among, unread}
use Rattle.spill_pool.specs.Steps.{Out, out, pool, listed, swept, Written, close_last, close_step, removed, remove_step}
use Rattle.spill_pool.proofs.Listing.{put_here, put_there}
use Rattle.spill_pool.proofs.Settling.{unread-push}
use Rattle.spill_pool.proofs.Writing.{Wrote, stored_ended, batches_shut, some_shut}
use Rattle.spill_pool.proofs.Pushing.{frame_same, settle_sound, settle-unread, frame_old, last_parts}

-- what is known after a call that adds nothing and gives nothing
pub record Held {P A : Type 0} (k : Kind P) (s : Setup) (m : Pool) (fs : Files) (o : Out A) : Type 0 where
  pub sound : Sound k.width s.maximum o.store o.next
  pub frame : Frame m.files fs o.next.files o.store
  pub unread : unread k.reading o.store o.next.files ≡ unread k.reading fs m.files

module _ {P : Type 0} (k : Kind P) (s : Setup) where
  -- finishing the open file, whatever the store says
  module _ (r : FileRecord) (fs : Files) (good : Stored k.width s.maximum (fs r.number) r) where
    abbrev finish : Result (Unit {0}) Cause → Written
    finish f = record { answer = Skipped; file = ended r; store = finish_after fs r.number f }

    here : (f : Result (Unit {0}) Cause) → (batches_of (finish_after fs r.number f r.number) ≡ batches_of (fs r.number)) × (is_some (finish_after fs r.number f r.number) ≡ true)
    here (Ok u) = (
      ap batches_of (put_here fs r.number (shut (fs r.number))) ∙ batches_shut (fs r.number),
      ap is_some (put_here fs r.number (shut (fs r.number))) ∙ some_shut (fs r.number) good.there,
    )
    here (Err c) = (refl, good.there)

    there : (f : Result (Unit {0}) Cause) (j : ℕ) → eqb r.number j ≡ false → finish_after fs r.number f j ≡ fs j
    there (Ok u) j e = put_there fs r.number j (shut (fs r.number)) e
    there (Err c) j e = refl

    finished : (f : Result (Unit {0}) Cause) → Wrote k s r fs (finish f) []
    finished f = record {
      good = stored_ended k.width s.maximum (fs r.number) (finish_after fs r.number f r.number) r good (here f).0 (here f).1;
      same = refl;
      read = refl;
      others = there f;
      unread = ap (λ (u : List (List ℕ)). map k.reading (drop r.read u)) (here f).0 ∙ sym (append-nil _);
      some = λ e. by e good.read;
    }
      where
        by : is_spent (ended r) ≡ false → r.read ≤ r.written → 0 < r.written
        by e l = ⊎_elim (λ (h : true ≡ false). absurd (both_ways true h refl)) (λ (h : eqb r.read r.written ≡ false). let d = eqb-false r.read r.written h in omega arith) (and_cases true (eqb r.read r.written) e)

  module _ (f : Facts) (m : Pool) (fs : Files) (sound : Sound k.width s.maximum fs m) where
    stays : {A : Type 0} (r : A) → Held k s m fs (out r m fs)
    stays r = record { sound = sound; frame = frame_same m.files fs; unread = refl }

    -- the number of sinks is another
    fewer : {A : Type 0} (r : A) (n : ℕ) → (n ≡ 0 → open_file m.files ≡ None) → Held k s m fs (out r (pool m.files n) fs)
    fewer r n e = record {
      sound = record { stored = sound.stored; used = sound.used; fresh = sound.fresh; order = sound.order; apart = sound.apart; idle = e };
      frame = frame_same m.files fs;
      unread = refl;
    }

    closed_last : (a : Replies) (o : Option FileRecord) → open_file m.files ≡ o → Held k s m fs (close_last s m fs a o)
    closed_last a None e = fewer _ 0 (λ _. e)
    closed_last a (Some r) e =
        let o = last_parts k.width s.maximum m fs sound r e in
        let v = finish r fs o.good a.finish in
        let w = finished r fs o.good a.finish in
        record {
          sound = settle_sound k s (older m.files) r 0 fs v [] w o.stored o.used o.fresh sound.order o.apart o.new o.first (λ _. refl);
          frame = subst (λ (u : List FileRecord). Frame u fs (listed (older m.files) v.file) (swept v.store v.file)) (sym o.split)
              (frame_old k s (older m.files) r 0 fs v [] w o.stored o.used o.fresh sound.order o.apart o.new o.first (λ _. refl));
          unread = settle-unread k s (older m.files) r 0 fs v [] w o.stored o.used o.fresh sound.order o.apart o.new o.first (λ _. refl)
              ∙ append-nil _ ∙ sym (unread-push k.width s.maximum k.reading fs (older m.files) r) ∙ ap (unread k.reading fs) (sym o.split);
        }

    pub closed : (a : Replies) → Held k s m fs (close_step s f m fs a)
    unfolding close_step
    closed a =
        cond_both (not f.fit) _ _ (Held k s m fs) (λ _. stays _)
        (λ _. cond_both (eqb m.sinks 0) _ _ (Held k s m fs) (λ _. stays _)
        (λ z. cond_both (eqb m.sinks 1) _ _ (Held k s m fs) (λ _. closed_last a (open_file m.files) refl)
        (λ o. fewer _ (m.sinks - 1) (λ e. absurd (let p = eqb-false m.sinks 0 z in let q = eqb-false m.sinks 1 o in omega arith)))))

-- removing files: what is not among them stays, and what is among them is gone
removed_there : (fs : Files) (rs : List FileRecord) (j : ℕ) → among j rs ≡ false → removed fs rs j ≡ fs j
removed_there fs [] j e = refl
removed_there fs (r ∷ rs) j e =
    let p = or_parts (eqb r.number j) (among j rs) e in
    removed_there (remove_after fs r.number) rs j p.1 ∙ put_there fs r.number j None p.0

removed_here : (fs : Files) (rs : List FileRecord) (j : ℕ) → (fs j ≡ None → removed fs rs j ≡ None) × (among j rs ≡ true → removed fs rs j ≡ None)
removed_here fs [] j = (λ e. e, λ e. absurd (both_ways false refl e))
removed_here fs (r ∷ rs) j =
    let q = removed_here (remove_after fs r.number) rs j in (
      λ e. q.0 (cond_both (eqb j r.number) None (fs j) (λ (o : Option File). o ≡ None) (λ _. refl) (λ _. e)),
      λ e. ⊎_elim
          (λ (h : eqb r.number j ≡ true). q.0 (ap (put fs r.number None) (sym (eqb-true r.number j h)) ∙ put_here fs r.number None))
          (λ (h : among j rs ≡ true). q.1 h)
          (or_cases (eqb r.number j) (among j rs) e),
    )

-- what is known after all files were removed
pub record Cleared {P A : Type 0} (k : Kind P) (s : Setup) (m : Pool) (fs : Files) (o : Out A) : Type 0 where
  pub sound : Sound k.width s.maximum o.store o.next
  pub frame : Frame m.files fs o.next.files o.store

module _ {P : Type 0} (k : Kind P) (s : Setup) (f : Facts) (m : Pool) (fs : Files) (sound : Sound k.width s.maximum fs m) where
  pub cleared : Cleared k s m fs (remove_step f m fs)
  unfolding remove_step
  cleared =
      cond_both (not f.fit) _ _ (Cleared k s m fs)
      (λ _. record { sound = sound; frame = frame_same m.files fs })
      (λ _. record {
        sound = record { stored = tt; used = tt; fresh = tt; order = tt; apart = tt; idle = λ _. refl };
        frame = record {
          others = λ j a _. removed_there fs m.files j a;
          gone = λ j a _. (removed_here fs m.files j).1 a;
          new = λ j _ b. absurd (both_ways false refl b);
        };
      })
