-- When a poll would be held back, and when the end is told. Assumes nothing.
use Rattle.std.proofs.Common.{◌≡◌, ℕ, ◌<◌, true, false, not, ◌&&◌, eqb, ltb, List, [], ◌∷◌, length, Ok, sym, refl, arith}
use Rattle.std.proofs.lemmas.Bool.{eqb-true, eqb-false, lt-ltb, le-ltb, ne_eqb, and_left, and_from, not_from_true, not_from_false, cond_both}
use Rattle.distributor_channels.specs.Meaning.{Meaning, Facts, Out, none, open_count, chan}
use Rattle.distributor_channels.specs.Steps.{SendAnswer, ReceiveAnswer, find, send_step, receive_of, receive_step}
use Rattle.distributor_channels.specs.Histories.{held_send, held_receive, ends}
use Rattle.distributor_channels.proofs.Linking.{and_none}

module _ {T : Type 0} (f : Facts) (m : Meaning T) (k w : ℕ) where
  held_of : (q : List T) → held_receive (receive_of f m k w (chan m k) q).answer ≡ (ltb 0 (chan m k).senders && none q)
  held_of [] =
      let P : Out T (ReceiveAnswer T) → Type 0 = λ o. held_receive o.answer ≡ (ltb 0 (chan m k).senders && true) in
      cond_both (eqb (chan m k).senders 0) _ _ P (λ s. sym (gone s))
      (λ s. cond_both (eqb f.places 0) _ _ P (λ _. sym (some s)) (λ _. sym (some s)))
    where
      gone : eqb (chan m k).senders 0 ≡ true → (ltb 0 (chan m k).senders && true) ≡ false
      gone s = and_left _ true (le-ltb 0 (chan m k).senders (omega (arith, eqb-true (chan m k).senders 0 s)))

      some : eqb (chan m k).senders 0 ≡ false → (ltb 0 (chan m k).senders && true) ≡ true
      some s = and_from _ true (lt-ltb 0 (chan m k).senders (omega (arith, eqb-false (chan m k).senders 0 s))) refl
  held_of (x ∷ xs) =
      let P : Out T (ReceiveAnswer T) → Type 0 = λ o. held_receive o.answer ≡ false in
      rw and_none
      (cond_both (none xs) _ _ P
      (λ _. cond_both (eqb (chan m k).senders 0) _ _ P (λ _. refl) (λ _. cond_both (eqb (open_count m.chans) 0) _ _ P (λ _. refl) (λ _. refl)))
      (λ _. refl))

  ends_of : (q : List T) → ends (receive_of f m k w (chan m k) q).answer ≡ (not (ltb 0 (chan m k).senders) && none q)
  ends_of [] =
      let P : Out T (ReceiveAnswer T) → Type 0 = λ o. ends o.answer ≡ (not (ltb 0 (chan m k).senders) && true) in
      cond_both (eqb (chan m k).senders 0) _ _ P
      (λ s. sym (and_from _ true (not_from_false _ (le-ltb 0 (chan m k).senders (omega (arith, eqb-true (chan m k).senders 0 s)))) refl))
      (λ s. cond_both (eqb f.places 0) _ _ P (λ _. sym (some s)) (λ _. sym (some s)))
    where
      some : eqb (chan m k).senders 0 ≡ false → (not (ltb 0 (chan m k).senders) && true) ≡ false
      some s = and_left _ true (not_from_true _ (lt-ltb 0 (chan m k).senders (omega (arith, eqb-false (chan m k).senders 0 s))))
  ends_of (x ∷ xs) =
      let P : Out T (ReceiveAnswer T) → Type 0 = λ o. ends o.answer ≡ false in
      rw and_none
      (cond_both (none xs) _ _ P
      (λ _. cond_both (eqb (chan m k).senders 0) _ _ P (λ _. refl) (λ _. cond_both (eqb (open_count m.chans) 0) _ _ P (λ _. refl) (λ _. refl)))
      (λ _. refl))

  module _ (t : f.fit ≡ true) (l : k < length m.chans) (r : (chan m k).receiver ≡ true) where
    found_is : find f m k ≡ Ok (chan m k)
    found_is = rw (t, lt-ltb k (length m.chans) l) refl

    -- a send to an open receiver, while a sender is open
    pub held-send : (x : T) → 0 < (chan m k).senders → held_send (send_step f m k w x).answer ≡ eqb (open_count m.chans) 0
    unfolding send_step
    held-send x s =
        let P : Out T (SendAnswer T) → Type 0 = λ o. held_send o.answer ≡ eqb (open_count m.chans) 0 in
        let z = ne_eqb (chan m k).senders 0 (λ q. omega arith) in
        rw (found_is, z, r)
        (cond_both (eqb (open_count m.chans) 0) _ _ P
        (λ g. cond_both (eqb f.places 0) _ _ P (λ _. sym g) (λ _. sym g))
        (λ g. cond_both (eqb f.cells 0) _ _ P (λ _. sym g) (λ _. cond_both (none (chan m k).queue) _ _ P (λ _. sym g) (λ _. sym g))))

    -- an open receiver
    pub held-receive : held_receive (receive_step f m k w).answer ≡ (ltb 0 (chan m k).senders && none (chan m k).queue)
    unfolding receive_step
    held-receive = rw (found_is, r) (held_of (chan m k).queue)

    pub ends-receive : ends (receive_step f m k w).answer ≡ (not (ltb 0 (chan m k).senders) && none (chan m k).queue)
    unfolding receive_step
    ends-receive = rw (found_is, r) (ends_of (chan m k).queue)
