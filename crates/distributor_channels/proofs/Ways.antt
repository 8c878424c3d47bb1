-- The steps, way by way: what each gives once its tests are known. Assumes nothing.
use Rattle.std.proofs.Common.{◌≡◌, ℕ, ◌-◌, true, false, eqb, List, [], ◌∷◌, length, Ok, Err, filter, refl, ap, ◌∙◌}
use Rattle.std.proofs.lemmas.Bool.{cond-true}
use Rattle.refusal.specs.declared.Refusal.{Refusal}
use Rattle.refusal.specs.declared.Refusal.TheVariants.{Cells, Places, Closed as Shut}
use Rattle.bank.specs.Lists.{push, without}
use Rattle.distributor_channels.specs.declared.SendPoll.TheVariants.{Sent, Wait, Closed}
use Rattle.distributor_channels.specs.declared.ReceivePoll.TheVariants.{Element, End, Wait as Await}
use Rattle.distributor_channels.specs.Meaning.{Chan, Meaning, Facts, entry, wakers, on, none, open_count, with_queue, with_receiving, with_senders, unheard, with_chan, with_sending, out}
use Rattle.distributor_channels.specs.Steps.{find, back, await, hand, receive_of, receive_by, send_step, receive_step, close_sender_step, close_receiver_step}

module _ {T : Type 0} (f : Facts) (m : Meaning T) (k : ℕ) where
  -- the call is refused before its channel is looked at
  module _ (why : Refusal) (e : find f m k ≡ Err why) where
    pub send_unfound : (w : ℕ) (x : T) → send_step f m k w x ≡ out (back why x) [] m
    unfolding send_step
    send_unfound w x = rw e refl

    pub receive_unfound : (w : ℕ) → receive_step f m k w ≡ out (Err why) [] m
    unfolding receive_step
    receive_unfound w = rw e refl

    pub close_sender_unfound : close_sender_step f m k ≡ out (Err why) [] m
    unfolding close_sender_step
    close_sender_unfound = rw e refl

    pub close_receiver_unfound : close_receiver_step f m k ≡ out (Err why) [] m
    unfolding close_receiver_step
    close_receiver_unfound = rw e refl

  -- the channel called is c
  module _ (c : Chan T) (e : find f m k ≡ Ok c) where
    module _ (w : ℕ) (x : T) where
      pub send-shut : eqb c.senders 0 ≡ true → send_step f m k w x ≡ out (back Shut x) [] m
      unfolding send_step
      send-shut s = rw (e, s) refl

      module _ (s : eqb c.senders 0 ≡ false) where
        pub send-closed : c.receiver ≡ false → send_step f m k w x ≡ out (Ok (Closed x)) [] m
        unfolding send_step
        send-closed r = rw (e, s, r) refl

        module _ (r : c.receiver ≡ true) where
          pub send_full : eqb (open_count m.chans) 0 ≡ true → eqb f.places 0 ≡ true → send_step f m k w x ≡ out (back Places x) [] m
          unfolding send_step
          send_full g p = rw (e, s, r, g, p) refl

          pub send_wait : eqb (open_count m.chans) 0 ≡ true → eqb f.places 0 ≡ false → send_step f m k w x ≡ out (Ok (Wait x)) [] (with_sending (push m.sending (entry w k)) m)
          unfolding send_step
          send_wait g p = rw (e, s, r, g, p) refl

          module _ (g : eqb (open_count m.chans) 0 ≡ false) where
            pub send_short : eqb f.cells 0 ≡ true → send_step f m k w x ≡ out (back Cells x) [] m
            unfolding send_step
            send_short n = rw (e, s, r, g, n) refl

            pub send_behind : eqb f.cells 0 ≡ false → none c.queue ≡ false → send_step f m k w x ≡ out (Ok (Sent 0)) [] (with_chan k (with_queue (push c.queue x) c) m)
            unfolding send_step
            send_behind n q = rw (e, s, r, g, n, q) refl

            pub send_first : eqb f.cells 0 ≡ false → none c.queue ≡ true →
                send_step f m k w x ≡ out (Ok (Sent (length c.receiving))) (wakers c.receiving) (with_chan k (with_receiving [] (with_queue (push c.queue x) c)) m)
            unfolding send_step
            send_first n q = rw (e, s, r, g, n, q) refl

    module _ (w : ℕ) where
      pub receive-shut : c.receiver ≡ false → receive_step f m k w ≡ out (Err Shut) [] m
      unfolding receive_step
      receive-shut r = rw (e, r) refl

      module _ (r : c.receiver ≡ true) where
        -- nothing is queued
        module _ (q : c.queue ≡ []) where
          await_is : receive_step f m k w ≡ await f m k w c
          unfolding receive_step
          await_is = ap (receive_by f m k w) e ∙ cond-true c.receiver _ _ r ∙ ap (receive_of f m k w c) q

          pub receive_end : eqb c.senders 0 ≡ true → receive_step f m k w ≡ out (Ok End) [] m
          receive_end s = await_is ∙ rw s refl

          pub receive_full : eqb c.senders 0 ≡ false → eqb f.places 0 ≡ true → receive_step f m k w ≡ out (Err Places) [] m
          receive_full s p = await_is ∙ rw (s, p) refl

          pub receive_wait : eqb c.senders 0 ≡ false → eqb f.places 0 ≡ false →
              receive_step f m k w ≡ out (Ok Await) [] (with_chan k (with_receiving (push c.receiving (entry w k)) c) m)
          receive_wait s p = await_is ∙ rw (s, p) refl

        -- x is the oldest, and xs come behind
        module _ (x : T) (xs : List T) (q : c.queue ≡ x ∷ xs) where
          hand_is : receive_step f m k w ≡ hand m k x xs c
          unfolding receive_step
          hand_is = ap (receive_by f m k w) e ∙ cond-true c.receiver _ _ r ∙ ap (receive_of f m k w c) q

          pub receive_more : none xs ≡ false → receive_step f m k w ≡ out (Ok (Element x 0)) [] (with_chan k (with_queue xs c) m)
          receive_more t = hand_is ∙ rw t refl

          pub receive_last : none xs ≡ true → eqb c.senders 0 ≡ true → receive_step f m k w ≡ out (Ok (Element x 0)) [] (with_chan k (with_queue xs c) m)
          receive_last t s = hand_is ∙ rw (t, s) refl

          pub receive_empties : none xs ≡ true → eqb c.senders 0 ≡ false → eqb (open_count m.chans) 0 ≡ false →
              receive_step f m k w ≡ out (Ok (Element x 0)) [] (with_chan k (with_queue xs c) m)
          receive_empties t s g = hand_is ∙ rw (t, s, g) refl

          pub receive_reopens : none xs ≡ true → eqb c.senders 0 ≡ false → eqb (open_count m.chans) 0 ≡ true →
              receive_step f m k w ≡ out (Ok (Element x (length m.sending))) (wakers m.sending) (with_sending [] (with_chan k (with_queue xs c) m))
          receive_reopens t s g = hand_is ∙ rw (t, s, g) refl

    pub close_sender_shut : eqb c.senders 0 ≡ true → close_sender_step f m k ≡ out (Err Shut) [] m
    unfolding close_sender_step
    close_sender_shut s = rw (e, s) refl

    pub close_sender_last : eqb c.senders 0 ≡ false → eqb c.senders 1 ≡ true →
        close_sender_step f m k ≡ out (Ok (length c.receiving)) (wakers c.receiving) (with_chan k (with_receiving [] (with_senders 0 c)) m)
    unfolding close_sender_step
    close_sender_last s t = rw (e, s, t) refl

    pub close_sender_fewer : eqb c.senders 0 ≡ false → eqb c.senders 1 ≡ false → close_sender_step f m k ≡ out (Ok 0) [] (with_chan k (with_senders (c.senders - 1) c) m)
    unfolding close_sender_step
    close_sender_fewer s t = rw (e, s, t) refl

    pub close_receiver_shut : c.receiver ≡ false → close_receiver_step f m k ≡ out (Err Shut) [] m
    unfolding close_receiver_step
    close_receiver_shut r = rw (e, r) refl

    pub close_receiver_gone : c.receiver ≡ true →
        close_receiver_step f m k ≡ out (Ok (length (filter (on k) m.sending))) (wakers (filter (on k) m.sending)) (with_sending (without (on k) m.sending) (with_chan k (unheard c) m))
    unfolding close_receiver_step
    close_receiver_gone r = rw (e, r) refl
