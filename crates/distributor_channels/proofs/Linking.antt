-- Each channel holds what its history says: its receiver, its senders and its queue. Assumes nothing.
use Rattle.std.proofs.Common.{◌≡◌, ℕ, ◌+◌, Bool, true, false, cond, ◌&&◌, eqb, List, [], ◌∷◌, ◌++◌, sym, refl, ap, ◌∙◌, append_assoc, add-zero, arith}
use Rattle.std.proofs.lemmas.List.{append-nil}
use Rattle.std.proofs.lemmas.Bool.{eqb-true, eqb-false, eq-eqb, and_parts, false≢true}
use Rattle.distributor_channels.specs.declared.Entry.{Entry}
use Rattle.distributor_channels.specs.Meaning.{Chan, Meaning, chan}
use Rattle.distributor_channels.specs.Histories.{Event, accepted_by, accepted, given_by, given, left_by, left, keeps_by, heard, parks_by, awaits_by}
use Rattle.distributor_channels.proofs.Stepping.{Quiet, refused_send, closed_send, refused_receive, end_receive, refused_sender, refused_receiver, View, each}
use Rattle.distributor_channels.proofs.Stepping.{Move, wakes, queues, parks, hands, invites, awaits, leaves, leaves_last, unhears}

-- what a call says of a channel, and of one waker there
pub record Said (T : Type 0) : Type 0 where
  pub accepts : List T
  pub gives : List T
  pub lets : ℕ
  pub keeps : Bool
  pub parking : Bool
  pub awaiting : Bool

pub and_none : (b : Bool) → (b && false) ≡ false
and_none true = refl
and_none false = refl

cond_same : {A : Type 0} (b : Bool) (x : A) → cond b x x ≡ x
cond_same true x = refl
cond_same false x = refl

same : (k : ℕ) → eqb k k ≡ true
same k = eq-eqb k k refl

module _ {T : Type 0} where
  abbrev said : ℕ → ℕ → Event T → Said T
  said k w e = record { accepts = accepted_by k e; gives = given_by k e; lets = left_by k e; keeps = keeps_by k e; parking = parks_by k w e; awaiting = awaits_by k w e }

  -- the call says nothing of the channel k
  abbrev pub Silent : ℕ → Event T → Type 0
  Silent k e = (w : ℕ) → said k w e ≡ record { accepts = []; gives = []; lets = 0; keeps = true; parking = false; awaiting = false }

  pub quiet_silent : (j : ℕ) {e : Event T} → Quiet e → Silent j e
  quiet_silent j refused_send w = simp and_none
  quiet_silent j closed_send w = simp and_none
  quiet_silent j refused_receive w = simp (and_none, cond_same)
  quiet_silent j end_receive w = simp (and_none, cond_same)
  quiet_silent j refused_sender w = simp and_none
  quiet_silent j refused_receiver w = simp and_none

  pub other_silent : (j : ℕ) {k : ℕ} {c c' : Chan T} {es es' : List Entry} {g : Bool} {e : Event T} →
      eqb k j ≡ false → Move k c es g e c' es' → Silent j e
  other_silent j n (wakes _ _ _ _) w = rw n refl
  other_silent j n (queues _ _ _ _ _) w = rw n refl
  other_silent j n (parks _ _ _ _) w = rw n refl
  other_silent j n (hands _ _ _ _ _ _) w = rw n refl
  other_silent j n (invites _ _ _ _ _) w = rw n refl
  other_silent j n (awaits _ _ _ _) w = rw n refl
  other_silent j n (leaves _ _) w = rw n refl
  other_silent j n (leaves_last _) w = rw n refl
  other_silent j n (unhears _) w = rw n refl

  -- what a call does to a channel is what it says of it; what leaves the queue and what is left are what was there and what came
  pub record Fits (j : ℕ) (e : Event T) (c c' : Chan T) : Type 0 where
    pub hears : c'.receiver ≡ (keeps_by j e && c.receiver)
    pub counts : c'.senders + left_by j e ≡ c.senders
    pub flows : c'.receiver ≡ true → given_by j e ++ c'.queue ≡ c.queue ++ accepted_by j e

  silent_fits : (j : ℕ) (e : Event T) (c : Chan T) → Silent j e → Fits j e c c
  silent_fits j e c s = let t = s 0 in record {
    hears = sym (ap (λ d. d.keeps && c.receiver) t);
    counts = ap (λ d. c.senders + d.lets) t ∙ add-zero c.senders;
    flows = λ _. ap (λ d. d.gives ++ c.queue) t ∙ (sym (append-nil c.queue) ∙ sym (ap (λ d. c.queue ++ d.accepts) t));
  }

  move_fits : {k : ℕ} {c c' : Chan T} {es es' : List Entry} {g : Bool} {e : Event T} → Move k c es g e c' es' → Fits k e c c'
  move_fits {k} (wakes _ _ _ _) = record { hears = refl; counts = add-zero _; flows = λ _. rw (same k) refl }
  move_fits {k} (queues _ _ _ _ _) = record { hears = refl; counts = add-zero _; flows = λ _. rw (same k) refl }
  move_fits {k} {c} (parks _ _ _ _) = record { hears = refl; counts = add-zero _; flows = λ _. rw (same k) (sym (append-nil c.queue)) }
  move_fits {k} {c} (hands _ _ _ q _ _) = record { hears = refl; counts = add-zero _; flows = λ _. rw (same k) (sym q ∙ sym (append-nil c.queue)) }
  move_fits {k} {c} (invites _ _ _ q _) = record { hears = refl; counts = add-zero _; flows = λ _. rw (same k) (sym q ∙ sym (append-nil c.queue)) }
  move_fits {k} {c} (awaits _ _ _ _) = record { hears = refl; counts = add-zero _; flows = λ _. rw (same k) (sym (append-nil c.queue)) }
  move_fits {k} {c} (leaves s _) = record { hears = refl; counts = rw (same k) (omega (arith, eqb-false c.senders 0 s)); flows = λ _. sym (append-nil c.queue) }
  move_fits {k} {c} (leaves_last s) = record { hears = refl; counts = rw (same k) (omega (arith, eqb-true c.senders 1 s)); flows = λ _. sym (append-nil c.queue) }
  move_fits {k} (unhears _) = record { hears = rw (same k) refl; counts = add-zero _; flows = λ r. absurd (false≢true r) }

  pub fits : {m m' : Meaning T} {e : Event T} → View m e m' → (j : ℕ) → Fits j e (chan m j) (chan m' j)
  fits =
      each (λ j e c es c' es'. Fits j e c c') (λ j e c es q. silent_fits j e c (quiet_silent j q))
      (λ k e c c' es es' g a. move_fits a) (λ j k e d c c' es es' g n a. silent_fits j e d (other_silent j n a))

  -- what the channel k holds after the history h, opened with v senders
  pub record Linked (v k : ℕ) (h : List (Event T)) (c : Chan T) : Type 0 where
    pub hears : c.receiver ≡ heard k h
    pub counts : c.senders + left k h ≡ v
    pub queues : c.receiver ≡ true → given k h ++ c.queue ≡ accepted k h

  pub linked_more : (v k : ℕ) (h : List (Event T)) (e : Event T) (c c' : Chan T) → Fits k e c c' → Linked v k h c → Linked v k (e ∷ h) c'
  linked_more v k h e c c' f l =
      let n = f.counts in let s = l.counts in
      record {
        hears = f.hears ∙ ap (λ b. keeps_by k e && b) l.hears;
        counts = omega arith;
        queues = λ r. append_assoc (given k h) (given_by k e) c'.queue ∙ (ap (λ q. given k h ++ q) (f.flows r) ∙
            (sym (append_assoc (given k h) c.queue (accepted_by k e)) ∙ ap (λ q. q ++ accepted_by k e) (l.queues (and_parts (keeps_by k e) c.receiver (sym f.hears ∙ r)).1)));
      }
