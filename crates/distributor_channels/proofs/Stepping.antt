-- What a call does, by cases, each with the facts that led to it: the laws go by these cases and see no step. Assumes nothing.
use Rattle.std.proofs.Common.{◌≡◌, ℕ, ◌-◌, ◌<◌, Bool, true, false, not, eqb, ltb, List, [], ◌∷◌, length, get_or, set, Ok, Err, filter, Result, sym, refl, subst, arith, get_or-set_other, get_or-set_same}
use lib.Seq.{set-get_or}
use Rattle.std.proofs.lemmas.Bool.{ltb-true, eqb-true, eqb-false, cond_both, and_parts, both_ways, not-false}
use Rattle.refusal.specs.declared.Refusal.{Refusal}
use Rattle.bank.specs.Lists.{push, without}
use Rattle.distributor_channels.specs.declared.Entry.{Entry}
use Rattle.distributor_channels.specs.declared.SendPoll.TheVariants.{Sent, Wait, Closed}
use Rattle.distributor_channels.specs.declared.Refused.{Refused}
use Rattle.distributor_channels.specs.declared.ReceivePoll.TheVariants.{Element, End, Wait as Await}
use Rattle.distributor_channels.specs.Meaning.{Chan, Meaning, Facts, Out, entry, wakers, on, none, is_open, open_count, shut, chan, with_queue, with_receiving, with_senders, unheard, with_sending, opened}
use Rattle.distributor_channels.specs.Steps.{find, accept, send_to, send_by, send_step, hand, receive_of, receive_by, receive_step, close_sender_by, close_sender_step, close_receiver_by, close_receiver_step}
use Rattle.distributor_channels.specs.Histories.{Event, sends, receives, closes_sender, closes_receiver, Run, opening, sending, receiving, closing_sender, closing_receiver}

-- a call that changed nothing and named nobody
pub data Quiet {T : Type 0} : Event T → Type 0 where
  refused_send : {k w : ℕ} {x : T} {r : Refused T} → Quiet (sends k w x (Err r) [])
  closed_send : {k w : ℕ} {x : T} → Quiet (sends k w x (Ok (Closed x)) [])
  refused_receive : {k w : ℕ} {r : Refusal} → Quiet (receives k w (Err r) [])
  end_receive : {k w : ℕ} → Quiet (receives k w (Ok End) [])
  refused_sender : {k : ℕ} {r : Refusal} → Quiet (closes_sender k (Err r) [])
  refused_receiver : {k : ℕ} {r : Refusal} → Quiet (closes_receiver k (Err r) [])

-- a call that changed the channel k, which was c, or who waits at the gate, which were es; g says that the gate was shut
pub data Move {T : Type 0} (k : ℕ) (c : Chan T) (es : List Entry) (g : Bool) : Event T → Chan T → List Entry → Type 0 where
  wakes : (w : ℕ) (x : T) → c.receiver ≡ true → g ≡ false →
      Move k c es g (sends k w x (Ok (Sent (length c.receiving))) (wakers c.receiving)) (with_receiving [] (with_queue (push c.queue x) c)) es
  queues : (w : ℕ) (x : T) → c.receiver ≡ true → g ≡ false → none c.queue ≡ false →
      Move k c es g (sends k w x (Ok (Sent 0)) []) (with_queue (push c.queue x) c) es
  parks : (w : ℕ) (x : T) → c.receiver ≡ true → g ≡ true →
      Move k c es g (sends k w x (Ok (Wait x)) []) c (push es (entry w k))
  hands : (w : ℕ) (x : T) (xs : List T) → c.queue ≡ x ∷ xs → c.receiver ≡ true → (is_open (with_queue xs c) ≡ true → g ≡ false) →
      Move k c es g (receives k w (Ok (Element x 0)) []) (with_queue xs c) es
  invites : (w : ℕ) (x : T) (xs : List T) → c.queue ≡ x ∷ xs → c.receiver ≡ true →
      Move k c es g (receives k w (Ok (Element x (length es))) (wakers es)) (with_queue xs c) []
  awaits : (w : ℕ) → c.queue ≡ [] → c.receiver ≡ true → eqb c.senders 0 ≡ false →
      Move k c es g (receives k w (Ok Await) []) (with_receiving (push c.receiving (entry w k)) c) es
  leaves : eqb c.senders 0 ≡ false → eqb c.senders 1 ≡ false →
      Move k c es g (closes_sender k (Ok 0) []) (with_senders (c.senders - 1) c) es
  leaves_last : eqb c.senders 1 ≡ true →
      Move k c es g (closes_sender k (Ok (length c.receiving)) (wakers c.receiving)) (with_receiving [] (with_senders 0 c)) es
  unhears : c.receiver ≡ true →
      Move k c es g (closes_receiver k (Ok (length (filter (on k) es))) (wakers (filter (on k) es))) (unheard c) (without (on k) es)

-- a call led from m to another meaning, or left it
pub data View {T : Type 0} (m : Meaning T) : Event T → Meaning T → Type 0 where
  stays : {e : Event T} → Quiet e → View m e m
  moves : {e : Event T} {c : Chan T} {es : List Entry} (k : ℕ) → k < length m.chans →
      Move k (chan m k) m.sending (eqb (open_count m.chans) 0) e c es → View m e (record { chans = set m.chans k c; sending = es })

module _ {T : Type 0} where
  -- what came of a call is one of the cases
  abbrev Seen : {A : Type 0} → Meaning T → (A → List ℕ → Event T) → Out T A → Type 0
  Seen m call o = View m (call o.answer o.named) o.next

  found : (P : Result (Chan T) Refusal → Type 0) (f : Facts) (m : Meaning T) (k : ℕ) →
      (k < length m.chans → P (Ok (chan m k))) → ((why : Refusal) → P (Err why)) → P (find f m k)
  found P f m k ok err =
      cond_both f.fit _ _ P
      (λ _. cond_both (ltb k (length m.chans)) _ _ P (λ l. ok (ltb-true k (length m.chans) l)) (λ _. err _))
      (λ _. err _)

  pub open_parts : (c : Chan T) → is_open c ≡ true → (c.receiver ≡ true) × (0 < c.senders) × (none c.queue ≡ true)
  open_parts c o =
      let a = and_parts c.receiver _ o in let b = and_parts (ltb 0 c.senders) _ a.1 in
      (a.0, ltb-true 0 c.senders b.0, b.1)

  module _ (f : Facts) (m : Meaning T) (k : ℕ) where
    module _ (w : ℕ) where
      accepted : (x : T) → k < length m.chans → (chan m k).receiver ≡ true → eqb (open_count m.chans) 0 ≡ false → Seen m (sends k w x) (accept m k x (chan m k))
      accepted x l r g =
          cond_both (none (chan m k).queue) _ _ (Seen m (sends k w x))
          (λ _. moves k l (wakes w x r g))
          (λ q. moves k l (queues w x r g q))

      parked : (x : T) → k < length m.chans → (chan m k).receiver ≡ true → eqb (open_count m.chans) 0 ≡ true →
          View m (sends k w x (Ok (Wait x)) []) (with_sending (push m.sending (entry w k)) m)
      parked x l r g =
          subst (λ (cs : List (Chan T)). View m (sends k w x (Ok (Wait x)) []) (record { chans = cs; sending = push m.sending (entry w k) }))
          (set-get_or m.chans k shut) (moves k l (parks w x r g))

      sent_to : (x : T) → k < length m.chans → Seen m (sends k w x) (send_to f m k w x (chan m k))
      sent_to x l =
          cond_both (eqb (chan m k).senders 0) _ _ (Seen m (sends k w x)) (λ _. stays refused_send)
          (λ _. cond_both (not (chan m k).receiver) _ _ (Seen m (sends k w x)) (λ _. stays closed_send)
          (λ r. cond_both (eqb (open_count m.chans) 0) _ _ (Seen m (sends k w x))
          (λ g. cond_both (eqb f.places 0) _ _ (Seen m (sends k w x)) (λ _. stays refused_send) (λ _. parked x l (not-false _ r) g))
          (λ g. cond_both (eqb f.cells 0) _ _ (Seen m (sends k w x)) (λ _. stays refused_send) (λ _. accepted x l (not-false _ r) g))))

      pub send-view : (x : T) → Seen m (sends k w x) (send_step f m k w x)
      unfolding send_step
      send-view x = found (λ r. Seen m (sends k w x) (send_by f m k w x r)) f m k (sent_to x) (λ why. stays refused_send)

      handed : k < length m.chans → (chan m k).receiver ≡ true → (x : T) (xs : List T) → (chan m k).queue ≡ x ∷ xs → Seen m (receives k w) (hand m k x xs (chan m k))
      handed l r x xs q =
          cond_both (none xs) _ _ (Seen m (receives k w))
          (λ _. cond_both (eqb (chan m k).senders 0) _ _ (Seen m (receives k w))
          (λ s. moves k l (hands w x xs q r (λ o. absurd (unmanned s (open_parts (with_queue xs (chan m k)) o).1))))
          (λ _. cond_both (eqb (open_count m.chans) 0) _ _ (Seen m (receives k w)) (λ _. moves k l (invites w x xs q r)) (λ g. moves k l (hands w x xs q r (λ _. g)))))
          (λ e. moves k l (hands w x xs q r (λ o. absurd (both_ways (none xs) e (open_parts (with_queue xs (chan m k)) o).2))))
        where
          unmanned : eqb (chan m k).senders 0 ≡ true → 0 < (chan m k).senders → ⊥
          unmanned s p = let z = eqb-true (chan m k).senders 0 s in omega arith

      received_of : k < length m.chans → (chan m k).receiver ≡ true → (q : List T) → (chan m k).queue ≡ q → Seen m (receives k w) (receive_of f m k w (chan m k) q)
      received_of l r [] q =
          cond_both (eqb (chan m k).senders 0) _ _ (Seen m (receives k w)) (λ _. stays end_receive)
          (λ s. cond_both (eqb f.places 0) _ _ (Seen m (receives k w)) (λ _. stays refused_receive) (λ _. moves k l (awaits w q r s)))
      received_of l r (x ∷ xs) q = handed l r x xs q

      pub receive-view : Seen m (receives k w) (receive_step f m k w)
      unfolding receive_step
      receive-view =
          found (λ r. Seen m (receives k w) (receive_by f m k w r)) f m k
          (λ l. cond_both (chan m k).receiver _ _ (Seen m (receives k w)) (λ r. received_of l r (chan m k).queue refl) (λ _. stays refused_receive))
          (λ why. stays refused_receive)

    pub close_sender_view : Seen m (closes_sender k) (close_sender_step f m k)
    unfolding close_sender_step
    close_sender_view =
        found (λ r. Seen m (closes_sender k) (close_sender_by m k r)) f m k
        (λ l. cond_both (eqb (chan m k).senders 0) _ _ (Seen m (closes_sender k)) (λ _. stays refused_sender)
        (λ s. cond_both (eqb (chan m k).senders 1) _ _ (Seen m (closes_sender k)) (λ e. moves k l (leaves_last e)) (λ e. moves k l (leaves s e))))
        (λ why. stays refused_sender)

    pub close_receiver_view : Seen m (closes_receiver k) (close_receiver_step f m k)
    unfolding close_receiver_step
    close_receiver_view =
        found (λ r. Seen m (closes_receiver k) (close_receiver_by m k r)) f m k
        (λ l. cond_both (chan m k).receiver _ _ (Seen m (closes_receiver k)) (λ r. moves k l (unhears r)) (λ _. stays refused_receiver))
        (λ why. stays refused_receiver)

  -- what the opening has and each case keeps, each run has
  pub over_run : (n v : ℕ) (Q : List (Event T) → Meaning T → Type 0) → Q [] (opened n v) →
      ((h : List (Event T)) (m : Meaning T) (e : Event T) (m' : Meaning T) → View m e m' → Q h m → Q (e ∷ h) m') →
      (h : List (Event T)) (m : Meaning T) → Run n v h m → Q h m
  over_run n v Q new keep _ _ opening = new
  over_run n v Q new keep _ _ (sending {h} {m} r f k w x) = keep h m _ _ (send-view f m k w x) (over_run n v Q new keep h m r)
  over_run n v Q new keep _ _ (receiving {h} {m} r f k w) = keep h m _ _ (receive-view f m k w) (over_run n v Q new keep h m r)
  over_run n v Q new keep _ _ (closing_sender {h} {m} r f k) = keep h m _ _ (close_sender_view f m k) (over_run n v Q new keep h m r)
  over_run n v Q new keep _ _ (closing_receiver {h} {m} r f k) = keep h m _ _ (close_receiver_view f m k) (over_run n v Q new keep h m r)

  -- a relation of each channel before and after, and of who waits at the gate: over a quiet call, at the channel called, and at another
  pub each : (R : ℕ → Event T → Chan T → List Entry → Chan T → List Entry → Type 0) →
      ((j : ℕ) (e : Event T) (c : Chan T) (es : List Entry) → Quiet e → R j e c es c es) →
      ((k : ℕ) (e : Event T) (c c' : Chan T) (es es' : List Entry) (g : Bool) → Move k c es g e c' es' → R k e c es c' es') →
      ((j k : ℕ) (e : Event T) (d c c' : Chan T) (es es' : List Entry) (g : Bool) → eqb k j ≡ false → Move k c es g e c' es' → R j e d es d es') →
      {m m' : Meaning T} {e : Event T} → View m e m' → (j : ℕ) → R j e (chan m j) m.sending (chan m' j) m'.sending
  each R calm here there {m} (stays q) j = calm j _ (chan m j) m.sending q
  each R calm here there {m} (moves {e} {c} {es} k l a) j = by (eqb k j) refl
    where
      by : (b : Bool) → eqb k j ≡ b → R j e (chan m j) m.sending (get_or (set m.chans k c) j shut) es
      by true t = subst (λ i. R i e (chan m i) m.sending (get_or (set m.chans k c) i shut) es) (eqb-true k j t) (rw (get_or-set_same m.chans k c shut l) (here k e _ _ _ _ _ a))
      by false n = rw (get_or-set_other m.chans k j c shut (λ q. eqb-false k j n (sym q))) (there j k e (chan m j) _ _ _ _ _ n a)
