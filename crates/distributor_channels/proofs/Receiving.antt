-- A receive poll, way by way. Assumes nothing.
use Rattle.std.proofs.Common.{◌≡◌, ℕ, suc, ◌+◌, ◌<◌, ◌≤◌, Bool, true, false, eqb, ltb, List, [], ◌∷◌, ◌++◌, map, length, take, set, is_some, is_ok, Some, None, Ok, Err, Option, Result, sym, refl, ap, ◌∙◌, ⊎_elim, arith}
use Rattle.std.proofs.lemmas.Bool.{both_ways, cases_lt, ltb-true, ltb-false, eq-eqb, ne_eqb, and_parts, and_from, cases_Bool}
use Rattle.std.proofs.lemmas.List.{get_or-set_same}
use Rattle.bank.proofs.Laws.{is_here, keeps_same, keeps_len}
use Rattle.refusal.specs.declared.Refusal.{Refusal}
use Rattle.refusal.specs.declared.Refusal.TheVariants.{Places, Closed as Shut}
use Rattle.bank.specs.declared.Queue.{Queue}
use Rattle.bank.specs.Lists.{oldest, rest, list, push}
use Rattle.bank.specs.Banks.{Mem, Is, freed, Keeps, Adds, Takes}
use Rattle.distributor_channels.specs.declared.Entry.{Entry}
use Rattle.distributor_channels.specs.declared.Channel.{Channel}
use Rattle.distributor_channels.specs.declared.Channels.{Channels}
use Rattle.distributor_channels.specs.declared.ReceivePoll.TheVariants.{Element, End, Wait as Await}
use Rattle.distributor_channels.specs.Meaning.{Meaning, bit, entry, none, is_open, open_count, chan, with_queue, with_receiving, with_chan, out}
use Rattle.distributor_channels.specs.Steps.{ReceiveAnswer, receive_step}
use Rattle.distributor_channels.specs.Naming.{Names}
use Rattle.distributor_channels.specs.Calls.{records, line_of, record_open, Mems, Others, mark_of, mark, Stands, Represents, facts, Does}
use Rattle.distributor_channels.proofs.Ways as way
use Rattle.distributor_channels.proofs.Standing.{take-set, no_queue, none_is, same_length, within, same_mark, same_senders, same_receiver, is_line, is_wait, line_is, wait_is, stands_set, waits_kept, lines_kept, count_room, Found, unwritten, Lost}
use Rattle.distributor_channels.proofs.Sending.{remade, requeued, requeued_same, mems, woken_room, finds, finds_not}

module _ {T : Type 0} (c : Channels) (ms : Mems T) (k w : ℕ) where
  abbrev Receives : Channels → Mems T → ReceiveAnswer T → Type 0
  Receives c' ms' r = Does (λ f m. receive_step f m k w) c ms c' ms' r

  pub receive_unfound : {why : Refusal} → Lost c (facts c ms).fit k why → Receives c ms (Err why)
  unfolding Represents
  receive_unfound {why} e o m st = rw (way.receive_unfound (facts c ms) m k why (finds_not c ms k e o m st) w) (refl, refl, st, λ _. (refl, refl))

  module _ (ch : Channel) (fd : Found c (facts c ms).fit k ch) where
    abbrev Ch : Others T → Meaning T → Type 0
    Ch o m = Stands c.sending (records c) c.count ms.entries ms.elements o m

    senders_are : (o : Others T) (m : Meaning T) → Ch o m → ch.senders ≡ (chan m k).senders
    senders_are o m st = same_senders c.sending (records c) c.count ms.entries ms.elements o m st k ch fd.inside fd.is

    receiver_is : (o : Others T) (m : Meaning T) → Ch o m → (q : Option Queue) → ch.queue ≡ q → (chan m k).receiver ≡ is_some q
    receiver_is o m st q e = sym (same_receiver c.sending (records c) c.count ms.entries ms.elements o m st k ch fd.inside fd.is) ∙ ap is_some e

    pub receive-shut : ch.queue ≡ None → Receives c ms (Err Shut)
    unfolding Represents
    receive-shut e o m st = rw (way.receive-shut (facts c ms) m k (chan m k) (finds c ms k ch fd o m st) w (receiver_is o m st None e)) (refl, refl, st, λ _. (refl, refl))

    module _ (q : Queue) (eq : ch.queue ≡ Some q) (xm' : Mem T) (q' : Queue) where
      line : (o : Others T) (m : Meaning T) → Ch o m → Is (map (λ r. line_of r.queue) (records c) ++ o.lines) k q
      line o m st =
          let e : line_of ch.queue ≡ q = ap line_of eq in
          rw e at (is_line c.sending (records c) c.count ms.entries ms.elements o m st k ch fd.inside fd.is)

      queue_is : (o : Others T) (m : Meaning T) → Ch o m → list (map (λ c. c.queue) m.chans ++ o.queued) k ≡ (chan m k).queue
      queue_is o m st = line_is c.sending (records c) c.count ms.entries ms.elements o m st k ch fd.inside fd.is

      -- nothing was there
      module _ (a : Takes ms.elements q xm' q' None) where
        nothing : (xs : List T) → None ≡ oldest xs → xs ≡ []
        nothing [] e = refl
        nothing (x ∷ xs) e = let z : ◌≡◌ {A = ℕ} 0 1 = cc in absurd (omega arith)

        empty_is : (o : Others T) (m : Meaning T) → Ch o m → ((chan m k).queue ≡ []) × (xm' ≡ ms.elements) × (q' ≡ q)
        empty_is o m st =
            let b = a _ _ k st.queued (line o m st) in
            let e = nothing _ b.0 in
            (sym (queue_is o m st) ∙ e, (b.2 e).0, (b.2 e).1)

        pub receive_end : ch.senders ≡ 0 → (t' : List Channel) → t' ≡ set c.table k (requeued ch q' ch.receiving) → Receives (remade c t' c.sending c.count) (mems xm' ms.entries ms.woken) (Ok End)
        unfolding Represents
        receive_end z t' et o m st =
            let e = empty_is o m st in
            let t : eqb (chan m k).senders 0 ≡ true = eq-eqb _ _ (sym (senders_are o m st) ∙ z) in
            let same : t' ≡ c.table = et ∙ unwritten c (facts c ms).fit k ch _ fd (ap (λ (u : Queue). requeued ch u ch.receiving) e.2 ∙ requeued_same ch q eq) in
            rw (e.1, same, way.receive_end (facts c ms) m k (chan m k) (finds c ms k ch fd o m st) w (receiver_is o m st (Some q) eq) e.0 t) (refl, refl, st, λ u. absurd (both_ways _ u refl))

        module _ (some : ch.senders ≡ 0 → ⊥) (em' : Mem Entry) (p' : Queue) (r : Result (Unit {0}) Entry) (d : Adds ms.entries ch.receiving (entry w k) em' p' r) where
          sender : (o : Others T) (m : Meaning T) → Ch o m → eqb (chan m k).senders 0 ≡ false
          sender o m st = ne_eqb _ _ (λ e. some (senders_are o m st ∙ e))

          pub receive_full : is_ok r ≡ false → (t' : List Channel) → t' ≡ set c.table k (requeued ch q' p') → Receives (remade c t' c.sending c.count) (mems xm' em' ms.woken) (Err Places)
          unfolding Represents
          receive_full bad t' et o m st =
              let e = empty_is o m st in
              let b = d _ _ (suc k) st.waiting (is_wait c.sending (records c) c.count ms.entries ms.elements o m st k ch fd.inside fd.is) in
              ⊎_elim
              (λ (h : 0 < freed ms.entries). absurd (both_ways _ bad (ap is_ok (b.0 h).0)))
              (λ (h : freed ms.entries ≤ 0).
              let f : eqb (freed ms.entries) 0 ≡ true = eq-eqb _ _ (omega arith) in
              let n = b.1 (omega arith) in
              let same : t' ≡ c.table = et ∙ unwritten c (facts c ms).fit k ch _ fd (ap (λ (u : Queue). requeued ch u p') e.2 ∙ (ap (λ (u : Queue). requeued ch q u) n.2 ∙ requeued_same ch q eq)) in
              rw (e.1, n.1, same, way.receive_full (facts c ms) m k (chan m k) (finds c ms k ch fd o m st) w (receiver_is o m st (Some q) eq) e.0 (sender o m st) f) (refl, refl, st, λ _. (refl, refl)))
              (cases_lt 0 (freed ms.entries))

          pub receive_wait : is_ok r ≡ true → (t' : List Channel) → t' ≡ set c.table k (requeued ch q' p') →
              Receives (remade c t' c.sending c.count) (mems xm' em' ms.woken) (Ok Await)
          unfolding Represents
          receive_wait good t' et o m st =
              let s = c.sending in let rs = records c in let n = c.count in
              let e = empty_is o m st in
              let b = d _ _ (suc k) st.waiting (is_wait s rs n ms.entries ms.elements o m st k ch fd.inside fd.is) in
              ⊎_elim
              (λ (h : 0 < freed ms.entries).
              let f : eqb (freed ms.entries) 0 ≡ false = ne_eqb _ _ (λ u. omega arith) in
              let new : Channel = record { queue = ch.queue; receiving = p'; senders = ch.senders } in
              let kw = rw (wait_is s rs n ms.entries ms.elements o m st k ch fd.inside fd.is) at (b.0 h).1 in
              let kq = lines_kept s rs n ms.entries ms.elements o m st k ch fd.inside fd.is in
              let mk = same_mark s rs n ms.entries ms.elements o m st k ch fd.inside fd.is in
              let z = stands_set s rs n ms.entries ms.elements o m st k ch fd.inside fd.is s new n em' ms.elements m.sending (with_receiving (push (chan m k).receiving (entry w k)) (chan m k)) kw kq mk refl in
              let z2 : Stands s (take c.n t') n em' ms.elements o (record { chans = set m.chans k (with_receiving (push (chan m k).receiving (entry w k)) (chan m k)); sending = m.sending }) =
              rw (et, take-set c.n c.table k (requeued ch q' p'), e.2, ← eq) z in
              rw (e.1, way.receive_wait (facts c ms) m k (chan m k) (finds c ms k ch fd o m st) w (receiver_is o m st (Some q) eq) e.0 (sender o m st) f)
              (refl, refl, z2, λ u. absurd (both_ways _ u refl)))
              (λ (h : freed ms.entries ≤ 0). let n = (b.1 (omega arith)).0 in absurd (both_ways _ (ap is_ok n) good))
              (cases_lt 0 (freed ms.entries))

      -- the oldest element was taken
      module _ (x : T) (a : Takes ms.elements q xm' q' (Some x)) (t' : List Channel) (et : t' ≡ set c.table k (requeued ch q' ch.receiving)) where
        split : (xs : List T) → Some x ≡ oldest xs → xs ≡ x ∷ rest xs
        split [] e = let z : ◌≡◌ {A = ℕ} 0 1 = cc in absurd (omega arith)
        split (y ∷ ys) e = let z : y ≡ x = cc in ap (λ (u : T). u ∷ ys) z

        module _ (o : Others T) (m : Meaning T) (st : Ch o m) where
          queue_was : (chan m k).queue ≡ x ∷ rest (chan m k).queue
          queue_was = split _ (rw (queue_is o m st) at (a _ _ k st.queued (line o m st)).0)

          -- what every taking has in common
          taking : (s' : Queue) (n' : ℕ) (em' : Mem Entry) (es : List Entry) →
              Keeps em' (s' ∷ (map (λ r. r.receiving) (records c) ++ o.waits)) (es ∷ (map (λ c. c.receiving) m.chans ++ o.waiting)) →
              n' + bit (is_open (chan m k)) ≡ c.count + bit (is_open (with_queue (rest (chan m k).queue) (chan m k))) →
              Stands s' (take c.n t') n' em' xm' o (record { chans = set m.chans k (with_queue (rest (chan m k).queue) (chan m k)); sending = es })
          taking s' n' em' es kw ct =
              let s = c.sending in let rs = records c in let n = c.count in
              let kq = rw (queue_is o m st) at (a _ _ k st.queued (line o m st)).1 in
              let m2 : Meaning T = record { chans = m.chans; sending = es } in
              let st2 : Stands s' rs n em' ms.elements o m2 = record { waiting = kw; queued = st.queued; marks = st.marks; count = st.count; few = st.few } in
              let kw2 = waits_kept s' rs n em' ms.elements o m2 st2 k ch fd.inside fd.is in
              let mk : mark_of (requeued ch q' ch.receiving) ≡ mark (chan m k) = rw (receiver_is o m st (Some q) eq, senders_are o m st) refl in
              let z = stands_set s rs n ms.entries ms.elements o m st k ch fd.inside fd.is s' (requeued ch q' ch.receiving) n' em' xm' es (with_queue (rest (chan m k).queue) (chan m k)) kw2 kq mk ct in
              rw (et, take-set c.n c.table k (requeued ch q' ch.receiving)) z

          -- before, the channel did not count
          counted_not : bit (is_open (chan m k)) ≡ 0
          counted_not = rw queue_was (no_queue (chan m k).receiver (ltb 0 (chan m k).senders))

          -- does the record that was written count as open?
          open_after : record_open (requeued ch q' ch.receiving) ≡ is_open (with_queue (rest (chan m k).queue) (chan m k))
          open_after =
              let kq = rw (queue_is o m st) at (a _ _ k st.queued (line o m st)).1 in
              let iq : Is (set (map (λ r. line_of r.queue) (records c) ++ o.lines) k q') k q' = is_here _ k q q' (line o m st) in
              let l = keeps_len xm' _ _ k q' kq iq in
              let hk : k < length (map (λ c. c.queue) m.chans ++ o.queued) = let h = (line o m st).0 in let e = keeps_same ms.elements _ _ st.queued in omega arith in
              let l2 : q'.len ≡ length (rest (chan m k).queue) = l ∙ ap length (get_or-set_same (map (λ c. c.queue) m.chans ++ o.queued) k (rest (chan m k).queue) [] hk) in
              rw (receiver_is o m st (Some q) eq, ← senders_are o m st, l2, none_is (rest (chan m k).queue)) refl

          -- with its receiver open, a channel that does not count has something queued, or no sender
          step_is : is_open (with_queue (rest (chan m k).queue) (chan m k)) ≡ false →
              receive_step (facts c ms) m k w ≡ out (Ok (Element x 0)) [] (with_chan k (with_queue (rest (chan m k).queue) (chan m k)) m)
          step_is e = by (none (rest (chan m k).queue)) refl
            where
              by : (b : Bool) → none (rest (chan m k).queue) ≡ b → receive_step (facts c ms) m k w ≡ out (Ok (Element x 0)) [] (with_chan k (with_queue (rest (chan m k).queue) (chan m k)) m)
              by false t = way.receive_more (facts c ms) m k (chan m k) (finds c ms k ch fd o m st) w (receiver_is o m st (Some q) eq) x (rest (chan m k).queue) queue_was t
              by true t =
                  let u : ltb 0 (chan m k).senders ≡ false =
                  ⊎_elim (λ (p : ltb 0 (chan m k).senders ≡ true). absurd (both_ways _ e (and_from _ _ (receiver_is o m st (Some q) eq) (and_from _ _ p t)))) (λ (p : ltb 0 (chan m k).senders ≡ false). p) (cases_Bool (ltb 0 (chan m k).senders)) in
                  let z : eqb (chan m k).senders 0 ≡ true = eq-eqb _ _ (let v = ltb-false 0 (chan m k).senders u in omega arith) in
                  way.receive_last (facts c ms) m k (chan m k) (finds c ms k ch fd o m st) w (receiver_is o m st (Some q) eq) x (rest (chan m k).queue) queue_was t z

          opens : is_open (with_queue (rest (chan m k).queue) (chan m k)) ≡ true → (none (rest (chan m k).queue) ≡ true) × (eqb (chan m k).senders 0 ≡ false)
          opens e =
              let p = and_parts (ltb 0 (chan m k).senders) (none (rest (chan m k).queue)) (and_parts (chan m k).receiver _ e).1 in
              (p.1, ne_eqb _ _ (λ u. let v = ltb-true 0 (chan m k).senders p.0 in omega arith))

        pub receive_taken : record_open (requeued ch q' ch.receiving) ≡ false → Receives (remade c t' c.sending c.count) (mems xm' ms.entries ms.woken) (Ok (Element x 0))
        unfolding Represents
        receive_taken e o m st =
            let shut = sym (open_after o m st) ∙ e in
            let was = counted_not o m st in
            let now0 : bit (is_open (with_queue (rest (chan m k).queue) (chan m k))) ≡ 0 = ap bit shut in
            let z = taking o m st c.sending c.count ms.entries m.sending st.waiting (omega arith) in
            rw (step_is o m st shut) (refl, refl, z, λ u. absurd (both_ways _ u refl))

        module _ (opened : record_open (requeued ch q' ch.receiving) ≡ true) (n' : ℕ) (en : c.count < 32 → n' ≡ c.count + 1) where
          counted : (o : Others T) (m : Meaning T) (st : Ch o m) → n' + bit (is_open (chan m k)) ≡ c.count + bit (is_open (with_queue (rest (chan m k).queue) (chan m k)))
          counted o m st =
              let was = counted_not o m st in
              let is : bit (is_open (with_queue (rest (chan m k).queue) (chan m k))) ≡ 1 = ap bit (sym (open_after o m st) ∙ opened) in
              let sl = same_length c.sending (records c) c.count ms.entries ms.elements o m st in
              let h = within c.sending (records c) c.count ms.entries ms.elements o m st k ch fd.inside fd.is in
              let rm = count_room m.chans k h in let ct = st.count in let fw = st.few in
              let en2 : n' ≡ c.count + 1 = en (omega arith) in
              omega arith

          pub receive_opens : (c.count ≡ 0 → ⊥) → Receives (remade c t' c.sending n') (mems xm' ms.entries ms.woken) (Ok (Element x 0))
          unfolding Represents
          receive_opens up o m st =
              let p = opens o m st (sym (open_after o m st) ∙ opened) in
              let g : eqb (open_count m.chans) 0 ≡ false = ne_eqb _ _ (λ e. up (st.count ∙ e)) in
              let z = taking o m st c.sending n' ms.entries m.sending st.waiting (counted o m st) in
              rw (way.receive_empties (facts c ms) m k (chan m k) (finds c ms k ch fd o m st) w (receiver_is o m st (Some q) eq) x (rest (chan m k).queue) (queue_was o m st) p.0 p.1 g) (refl, refl, z, λ u. absurd (both_ways _ u refl))

          pub receive_wakes : c.count ≡ 0 → (em' : Mem Entry) (s' : Queue) (w' : List ℕ) (named : ℕ) → Names ms.entries c.sending ms.woken em' s' w' named →
              Receives (remade c t' s' n') (mems xm' em' w') (Ok (Element x named))
          unfolding Represents
          receive_wakes down em' s' w' named nm o m st =
              let p = opens o m st (sym (open_after o m st) ∙ opened) in
              let g : eqb (open_count m.chans) 0 ≡ true = eq-eqb _ _ (sym st.count ∙ down) in
              let d = nm _ _ 0 st.waiting (omega arith, refl) (woken_room c ms _ _ 0 st.waiting fd.fit) in
              let z = taking o m st s' n' em' [] d.0 (counted o m st) in
              rw (way.receive_reopens (facts c ms) m k (chan m k) (finds c ms k ch fd o m st) w (receiver_is o m st (Some q) eq) x (rest (chan m k).queue) (queue_was o m st) p.0 p.1 g)
              (ap (λ (u : ℕ). Ok (Element x u)) d.2, d.1, z, λ u. absurd (both_ways _ u refl))
