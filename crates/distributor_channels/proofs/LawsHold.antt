-- The laws of histories hold. Assumes nothing.
use Rattle.std.proofs.Common.{◌≡◌, ℕ, zero, suc, ◌+◌, ◌<◌, Bool, true, false, not, ◌&&◌, eqb, ltb, List, [], ◌∷◌, ◌++◌, length, get_or, replicate, sym, refl, ap, ◌∙◌, ap₂, ⊎_elim, add-zero, arith, length-append, length-set}
use lib.ListN.{length-replicate, get_or-replicate, get_or-eq_default}
use Rattle.std.proofs.lemmas.Bool.{lt-ltb, le-ltb, eq-eqb, ne_eqb, cases_lt, and_from, both_ways, false≢true, true≢false}
use Rattle.distributor_channels.specs.Meaning.{Chan, Meaning, none, is_open, shut, chan, opened, wakers, on}
use Rattle.distributor_channels.specs.Histories.{Event, Run, among, accepted, given, left, heard, idle, Laws}
use Rattle.distributor_channels.proofs.Counting.{count_is}
use Rattle.distributor_channels.proofs.Stepping.{View, stays, moves, over_run}
use Rattle.distributor_channels.proofs.Linking.{fits, Linked, linked_more}
use Rattle.distributor_channels.proofs.Waiting.{some_in, in_kept, Rests, heeds, Waited, waited_more, Gated, gated_more}
use Rattle.distributor_channels.proofs.Polling.{held-send, held-receive, ends-receive}

-- what holds of one of equal elements and of the default holds wherever one looks
at_any : {A : Type 0} (P : A → Type 0) (n k : ℕ) (a d : A) → P a → P d → P (get_or (replicate n a) k d)
at_any P zero k a d p q = q
at_any P (suc n) zero a d p q = p
at_any P (suc n) (suc k) a d p q = at_any P n k a d p q

module _ {T : Type 0} where
  -- what every run has
  record Holding (n v : ℕ) (h : List (Event T)) (m : Meaning T) : Type 0 where
    pub long : length m.chans ≡ n
    pub linked : (k : ℕ) → k < n → Linked v k h (chan m k)
    pub waited : (k : ℕ) → Waited k h (chan m k) m.sending
    pub gated : Gated m

  holding_new : (n v : ℕ) → Holding n v [] (opened n v)
  holding_new n v = record {
    long = length-replicate n _;
    linked = λ k l. rw get_or-replicate (record { hears = refl; counts = add-zero v; queues = λ _. refl });
    waited = λ k. record {
      rests = at_any Rests n k _ shut (λ _ e. absurd (true≢false e)) (λ _ e. absurd (true≢false e));
      listed = λ w t. absurd (false≢true t);
      parked = λ w t. absurd (false≢true t);
    };
    gated = λ e. absurd (true≢false e);
  }

  same_long : {m m' : Meaning T} {e : Event T} → View m e m' → length m'.chans ≡ length m.chans
  same_long (stays _) = refl
  same_long {m} (moves {e} {c} k l a) = length-set m.chans k c

  holding_more : (n v : ℕ) (h : List (Event T)) (m : Meaning T) (e : Event T) (m' : Meaning T) → View m e m' → Holding n v h m → Holding n v (e ∷ h) m'
  holding_more n v h m e m' a i = record {
    long = same_long a ∙ i.long;
    linked = λ k l. linked_more v k h e _ _ (fits a k) (i.linked k l);
    waited = λ k. waited_more k h e _ _ _ _ (heeds a k) (i.waited k);
    gated = gated_more a i.gated;
  }

  -- a channel with anything that a shut one has not is in range
  inside : (m : Meaning T) (k : ℕ) (p : Chan T → Bool) → p shut ≡ false → p (chan m k) ≡ true → k < length m.chans
  inside m k p o t = ⊎_elim (λ l. l) (λ l. absurd (both_ways (p (chan m k)) (ap p (get_or-eq_default m.chans shut l) ∙ o) t)) (cases_lt k (length m.chans))

  module _ (v k : ℕ) (h : List (Event T)) (c : Chan T) (i : Linked v k h c) where
    manned : ltb 0 c.senders ≡ ltb (left k h) v
    manned =
        let s = i.counts in
        ⊎_elim (λ l. lt-ltb 0 c.senders l ∙ sym (lt-ltb (left k h) v (omega arith))) (λ l. le-ltb 0 c.senders l ∙ sym (le-ltb (left k h) v (omega arith))) (cases_lt 0 c.senders)

    drained : (q : List T) → given k h ++ q ≡ accepted k h → none q ≡ eqb (length (given k h)) (length (accepted k h))
    drained q e = by q (simp length-append at (ap length e))
      where
        by : (q : List T) → length (given k h) + length q ≡ length (accepted k h) → none q ≡ eqb (length (given k h)) (length (accepted k h))
        by [] s = sym (eq-eqb _ _ (omega arith))
        by (x ∷ xs) s = sym (ne_eqb _ _ (λ z. omega arith))

    ends_as : c.receiver ≡ true → (not (ltb 0 c.senders) && none c.queue) ≡ (not (ltb (left k h) v) && eqb (length (given k h)) (length (accepted k h)))
    ends_as r = ap₂ (λ a b. not a && b) manned (drained c.queue (i.queues r))

    waits_as : c.receiver ≡ true → (ltb 0 c.senders && none c.queue) ≡ (ltb (left k h) v && eqb (length (given k h)) (length (accepted k h)))
    waits_as r = ap₂ ◌&&◌ manned (drained c.queue (i.queues r))

    open_as : is_open c ≡ idle v k h
    open_as = by c.receiver refl
      where
        by : (b : Bool) → c.receiver ≡ b → is_open c ≡ idle v k h
        by true r = ap₂ ◌&&◌ i.hears (waits_as r)
        by false r = rw (r, sym i.hears ∙ r) refl

  module _ (n v : ℕ) (h : List (Event T)) (m : Meaning T) (i : Holding n v h m) where
    within : (k : ℕ) → k < n → k < length m.chans
    within k l = rw i.long l

    hearing : (k : ℕ) → k < n → heard k h ≡ true → (chan m k).receiver ≡ true
    hearing k l t = (i.linked k l).hears ∙ t

    sender : (k : ℕ) → k < n → left k h < v → 0 < (chan m k).senders
    sender k l s = let c = (i.linked k l).counts in omega arith

    holding_laws : Laws n v h m
    holding_laws = record {
      delivery = λ k l t. (i.linked k l).queues (hearing k l t);
      gate = λ f k w x t l d s. held-send f m k w t (within k l) (hearing k l d) x (sender k l s) ∙
          ap (λ c. eqb c 0) (count_is v n h m.chans i.long (λ j l. open_as v j h (chan m j) (i.linked j l)));
      receivers = λ f k w t l d. held-receive f m k w t (within k l) (hearing k l d) ∙ waits_as v k h (chan m k) (i.linked k l) (hearing k l d);
      endings = λ f k w t l d. ends-receive f m k w t (within k l) (hearing k l d) ∙ ends_as v k h (chan m k) (i.linked k l) (hearing k l d);
      no_sender_forgotten = λ f k w u x t p s.
          let e = (i.waited k).parked w p in
          let l = inside m k (λ c. c.receiver) refl e.0 in
          held-send f m k u t l e.0 x (sender k (rw i.long at l) s) ∙ i.gated (some_in w m.sending (in_kept w (on k) m.sending e.1));
      no_receiver_forgotten = λ f k w u t p d.
          let e = (i.waited k).listed w p in
          let l = inside m k (λ c. among w (wakers c.receiving)) refl e in
          let r = hearing k (rw i.long at l) d in
          let z = (i.waited k).rests r (some_in w (chan m k).receiving e) in
          held-receive f m k u t l r ∙ and_from _ _ (lt-ltb 0 (chan m k).senders z.1) z.0;
    }

pub laws : {T : Type 0} (n v : ℕ) (h : List (Event T)) (m : Meaning T) → Run n v h m → Laws n v h m
laws n v h m r = holding_laws n v h m (over_run n v (Holding n v) (holding_new n v) (holding_more n v) h m r)

-- a run leaves the number of channels as it was
pub run_long : {T : Type 0} (n v : ℕ) (h : List (Event T)) (m : Meaning T) → Run n v h m → length m.chans ≡ n
run_long n v h m r = (over_run n v (Holding n v) (holding_new n v) (holding_more n v) h m r).long
