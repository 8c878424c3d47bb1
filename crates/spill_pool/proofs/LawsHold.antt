-- The laws of histories hold. Assumes nothing.
use Rattle.std.proofs.Common.{◌≡◌, ℕ, ◌+◌, ◌^◌, ◌<◌, ◌≤◌, true, false, not, eqb, List, ◌++◌, length, None, Result, sym, refl, ap, ◌∙◌, ⊎_elim, arith, length-append}
use Rattle.std.proofs.ByRecursion.{All-weaker}
use Rattle.std.proofs.lemmas.List.{append-nil, append_assoc}
use Rattle.std.proofs.lemmas.Bool.{cases_Bool, cases_eq, cond_both, eq-eqb, ne_eqb, both_ways}
use Rattle.refusal.specs.declared.Refusal.{Refusal}
use Rattle.resources.specs.Files.{Files}
use Rattle.spill_pool.specs.Meaning.{Setup, Pool, Facts, Kind, Lawful, batch_of, Used, Sound, Frame, among, unread}
use Rattle.spill_pool.specs.Steps.{Out, push_step, poll_step, close_step, remove_step}
use Rattle.spill_pool.specs.Histories.{Event, Run, opening, pushing, polling, closing, removing, meanwhile, keeps, gives, given, kept, kept_unless, Laws}
use Rattle.spill_pool.proofs.Settling.{stored_agree, unread_agree}
use Rattle.spill_pool.proofs.Pushing.{pushed}
use Rattle.spill_pool.proofs.Reading.{polled, rests_when}
use Rattle.spill_pool.proofs.Closing.{closed, cleared}

module _ {P : Type 0} (k : Kind P) (law : Lawful k) (s : Setup) (most : s.maximum ≤ 2 ^ 40) where
  -- what every history keeps
  pub record Holding (h : List (Event P)) (m : Pool) (fs gs : Files) : Type 0 where
    pub sound : Sound k.width s.maximum fs m
    pub delivered : given h ++ unread k.reading fs m.files ≡ kept h
    pub listing : (n : ℕ) → among n m.files ≡ false → fs n ≡ gs n
    pub apart : (n : ℕ) → among n m.files ≡ true → gs n ≡ None

  -- a call that leaves others' files alone
  listing_kept : (m m' : Pool) (fs fs' gs : Files) → Frame m.files fs m'.files fs' → ((n : ℕ) → among n m.files ≡ false → fs n ≡ gs n) → ((n : ℕ) → among n m.files ≡ true → gs n ≡ None) →
      (n : ℕ) → among n m'.files ≡ false → fs' n ≡ gs n
  listing_kept m m' fs fs' gs f l a n e =
      ⊎_elim
      (λ (b : among n m.files ≡ true). f.gone n b e ∙ sym (a n b))
      (λ (b : among n m.files ≡ false). f.others n b e ∙ l n b)
      (cases_Bool (among n m.files))

  apart_kept : (m m' : Pool) (fs fs' gs : Files) → Frame m.files fs m'.files fs' → ((n : ℕ) → among n m.files ≡ false → fs n ≡ gs n) → ((n : ℕ) → among n m.files ≡ true → gs n ≡ None) →
      (n : ℕ) → among n m'.files ≡ true → gs n ≡ None
  apart_kept m m' fs fs' gs f l a n e =
      ⊎_elim
      (λ (b : among n m.files ≡ true). a n b)
      (λ (b : among n m.files ≡ false). sym (l n b) ∙ f.new n b e)
      (cases_Bool (among n m.files))

  -- after all files were removed, what was given is all that is kept
  clear_delivered : (f : Facts) (h : List (Event P)) (m : Pool) (fs : Files) → given h ++ unread k.reading fs m.files ≡ kept h →
      given h ++ unread k.reading (remove_step f m fs).store (remove_step f m fs).next.files ≡ kept_unless (kept h) (given h) (remove_step f m fs).answer
  unfolding remove_step
  clear_delivered f h m fs d =
      cond_both (not f.fit) _ _ (λ (o : Out (Result (Unit {0}) Refusal)). given h ++ unread k.reading o.store o.next.files ≡ kept_unless (kept h) (given h) o.answer)
      (λ _. d) (λ _. append-nil (given h))

  pub holding : (n : ℕ) {h : List (Event P)} {m : Pool} {fs gs : Files} → Run k s n h m fs gs → Holding h m fs gs
  holding n (opening fs) = record {
    sound = record { stored = tt; used = tt; fresh = tt; order = tt; apart = tt; idle = λ _. refl };
    delivered = refl;
    listing = λ _ _. refl;
    apart = λ j e. absurd (both_ways false refl e);
  }
  holding n (pushing {h} {m} {fs} {gs} r f x a l) =
      let i = holding n r in let p = pushed k law s most x f m fs i.sound a l in
      let o = push_step s f m fs (batch_of k x) a in
      record {
        sound = p.sound;
        delivered = ap (λ (u : List P). given h ++ u) p.unread ∙ sym (append_assoc (given h) (unread k.reading fs m.files) (keeps x o.answer)) ∙ ap (λ (u : List P). u ++ keeps x o.answer) i.delivered;
        listing = listing_kept m o.next fs o.store gs p.frame i.listing i.apart;
        apart = apart_kept m o.next fs o.store gs p.frame i.listing i.apart;
      }
  holding n (polling {h} {m} {fs} {gs} r f a l) =
      let i = holding n r in let p = polled k s f m fs i.sound a in
      let o = poll_step s k.reading f m fs a in
      record {
        sound = p.sound;
        delivered = append_assoc (given h) (gives o.answer) (unread k.reading o.store o.next.files) ∙ ap (λ (u : List P). given h ++ u) (sym p.unread) ∙ i.delivered;
        listing = listing_kept m o.next fs o.store gs p.frame i.listing i.apart;
        apart = apart_kept m o.next fs o.store gs p.frame i.listing i.apart;
      }
  holding n (closing {h} {m} {fs} {gs} r f a l) =
      let i = holding n r in let p = closed k s f m fs i.sound a in
      let o = close_step s f m fs a in
      record {
        sound = p.sound;
        delivered = ap (λ (u : List P). given h ++ u) p.unread ∙ i.delivered;
        listing = listing_kept m o.next fs o.store gs p.frame i.listing i.apart;
        apart = apart_kept m o.next fs o.store gs p.frame i.listing i.apart;
      }
  holding n (removing {h} {m} {fs} {gs} r f) =
      let i = holding n r in let p = cleared k s f m fs i.sound in
      let o = remove_step f m fs in
      record {
        sound = p.sound;
        delivered = clear_delivered f h m fs i.delivered;
        listing = listing_kept m o.next fs o.store gs p.frame i.listing i.apart;
        apart = apart_kept m o.next fs o.store gs p.frame i.listing i.apart;
      }
  holding n (meanwhile {h} {m} {fs} {gs} r fs' gs' e) =
      let i = holding n r in
      record {
        sound = record {
          stored = stored_agree k.width s.maximum fs fs' m.files (λ j b. (e.ours j b).0) i.sound.stored;
          used = i.sound.used;
          fresh = i.sound.fresh;
          order = i.sound.order;
          apart = i.sound.apart;
          idle = i.sound.idle;
        };
        delivered = ap (λ (u : List P). given h ++ u) (unread_agree k.width s.maximum k.reading fs fs' m.files (λ j b. (e.ours j b).0)) ∙ i.delivered;
        listing = e.theirs;
        apart = λ j b. (e.ours j b).1 ∙ i.apart j b;
      }

  -- the same number more on both sides
  none_more : (a b c : ℕ) → a + b ≡ c → eqb b 0 ≡ eqb a c
  none_more a b c e =
      ⊎_elim
      (λ (z : b ≡ 0). eq-eqb b 0 z ∙ sym (eq-eqb a c (omega arith)))
      (λ (z : b ≡ 0 → ⊥). ne_eqb b 0 z ∙ sym (ne_eqb a c (λ q. z (omega arith))))
      (cases_eq b 0)

  pub laws : (n : ℕ) {h : List (Event P)} {m : Pool} {fs gs : Files} → Run k s n h m fs gs → Laws k s h m fs gs
  laws n {h} {m} {fs} {gs} r =
      let i = holding n r in
      record {
        delivery = i.delivered;
        waiting = λ f a e.
            rests_when k s f m fs i.sound a e
            ∙ none_more (length (given h)) (length (unread k.reading fs m.files)) (length (kept h)) (sym (length-append (given h) (unread k.reading fs m.files)) ∙ ap length i.delivered);
        listing = i.listing;
        leaving = All-weaker Used (λ x. x.finished ≡ true → x.read < x.written) (λ x u. u.over) m.files i.sound.used;
      }
