-- A send poll, way by way. Assumes nothing.
use Rattle.std.proofs.Common.{◌≡◌, ℕ, suc, ◌+◌, ◌-◌, ◌<◌, ◌≤◌, true, false, ◌&&◌, eqb, ltb, leb, List, [], ◌++◌, map, length, take, set, is_some, Some, None, Ok, Err, Option, sym, refl, ap, ◌∙◌, ⊎_elim, arith}
use Rattle.std.proofs.lemmas.Bool.{both_ways, cases_lt, lt-ltb, le-ltb, leb-true, eq-eqb, ne_eqb, and_parts}
use Rattle.refusal.specs.declared.Refusal.{Refusal}
use Rattle.refusal.specs.declared.Refusal.TheVariants.{Cells, Places, Closed as Shut}
use Rattle.bank.specs.declared.Queue.{Queue}
use Rattle.bank.specs.Lists.{list, push}
use Rattle.bank.specs.Banks.{Mem, Is, size, freed, Keeps, Adds}
use Rattle.bank.proofs.Laws.{keeps-fits}
use Rattle.distributor_channels.specs.declared.Entry.{Entry}
use Rattle.distributor_channels.specs.declared.Channel.{Channel}
use Rattle.distributor_channels.specs.declared.Channels.{Channels}
use Rattle.distributor_channels.specs.declared.SendPoll.TheVariants.{Sent, Wait, Closed}
use Rattle.distributor_channels.specs.Meaning.{Meaning, bit, entry, none, is_open, open_count, chan, with_queue, with_receiving}
use Rattle.distributor_channels.specs.Steps.{SendAnswer, find, back, send_step}
use Rattle.distributor_channels.specs.Naming.{Names}
use Rattle.distributor_channels.specs.Calls.{records, line_of, Mems, Others, mark_of, mark, Stands, Represents, facts, Does}
use Rattle.distributor_channels.proofs.Ways as way
use Rattle.distributor_channels.proofs.Standing.{take-set, no_queue, none_is, none-push, same_length, same_senders, same_receiver, is_line, is_wait, line_is, wait_is, line_len, stands_set, waits_kept, Found, unwritten, Lost, unfit, beyond}

-- channels and memories with other parts
abbrev pub remade : Channels → List Channel → Queue → ℕ → Channels
remade c t s n = record { n = c.n; table = t; sending = s; count = n; places = c.places; cells = c.cells }

-- the record with another queue, and other entries
abbrev pub requeued : Channel → Queue → Queue → Channel
requeued ch q p = record { queue = Some q; receiving = p; senders = ch.senders }

pub requeued_same : (ch : Channel) (q : Queue) → ch.queue ≡ Some q → requeued ch q ch.receiving ≡ ch
requeued_same ch q e = ap (λ (u : Option Queue). record { queue = u; receiving = ch.receiving; senders = ch.senders }) (sym e)

-- none of the entries lacks a place in the woken list
pub woken_room : {T : Type 0} (c : Channels) (ms : Mems T) (qs : List Queue) (xss : List (List Entry)) (k : ℕ) → Keeps ms.entries qs xss → (facts c ms).fit ≡ true → length (list xss k) ≤ length ms.woken
woken_room c ms qs xss k kp e =
    let f = keeps-fits ms.entries qs xss k kp in
    let a = (and_parts (eqb c.cells (size ms.elements)) (eqb c.places (size ms.entries) && leb (size ms.entries) (length ms.woken)) e).1 in
    let b = (and_parts (eqb c.places (size ms.entries)) (leb (size ms.entries) (length ms.woken)) a).1 in
    let l : size ms.entries ≤ length ms.woken = leb-true (size ms.entries) (length ms.woken) b in omega arith

module _ {T : Type 0} where
  abbrev pub mems : Mem T → Mem Entry → List ℕ → Mems T
  mems xm em w = record { elements = xm; entries = em; woken = w }

  module _ (c : Channels) (ms : Mems T) (k : ℕ) where
    abbrev Standing : Others T → Meaning T → Type 0
    Standing o m = Stands c.sending (records c) c.count ms.entries ms.elements o m

    -- the step finds the channel where the call does
    pub finds : (ch : Channel) → Found c (facts c ms).fit k ch → (o : Others T) (m : Meaning T) → Standing o m → find (facts c ms) m k ≡ Ok (chan m k)
    finds ch fd o m st =
        let e = same_length c.sending (records c) c.count ms.entries ms.elements o m st in
        let t : ltb k (length m.chans) ≡ true = lt-ltb _ _ (let h = fd.inside in omega arith) in
        rw (fd.fit, t) refl

    pub finds_not : {why : Refusal} → Lost c (facts c ms).fit k why → (o : Others T) (m : Meaning T) → Standing o m → find (facts c ms) m k ≡ Err why
    finds_not (unfit e) o m st = rw e refl
    finds_not (beyond f n) o m st =
        let e = same_length c.sending (records c) c.count ms.entries ms.elements o m st in
        let t : ltb k (length m.chans) ≡ false = le-ltb _ _ (omega arith) in
        rw (f, t) refl

  module _ (c : Channels) (ms : Mems T) (k w : ℕ) (x : T) where
    abbrev Sends : Channels → Mems T → SendAnswer T → Type 0
    Sends c' ms' r = Does (λ f m. send_step f m k w x) c ms c' ms' r

    pub send_unfound : {why : Refusal} → Lost c (facts c ms).fit k why → Sends c ms (back why x)
    unfolding Represents
    send_unfound {why} e o m st = rw (way.send_unfound (facts c ms) m k why (finds_not c ms k e o m st) w x) (refl, refl, st, λ _. (refl, refl))

    module _ (ch : Channel) (fd : Found c (facts c ms).fit k ch) where
      abbrev Ch : Others T → Meaning T → Type 0
      Ch o m = Standing c ms k o m

      no_senders : (o : Others T) (m : Meaning T) → Ch o m → ch.senders ≡ 0 → eqb (chan m k).senders 0 ≡ true
      no_senders o m st z = eq-eqb _ _ (sym (same_senders c.sending (records c) c.count ms.entries ms.elements o m st k ch fd.inside fd.is) ∙ z)

      some_senders : (o : Others T) (m : Meaning T) → Ch o m → (ch.senders ≡ 0 → ⊥) → eqb (chan m k).senders 0 ≡ false
      some_senders o m st z = ne_eqb _ _ (λ e. z (same_senders c.sending (records c) c.count ms.entries ms.elements o m st k ch fd.inside fd.is ∙ e))

      receiver_is : (o : Others T) (m : Meaning T) → Ch o m → (q : Option Queue) → ch.queue ≡ q → (chan m k).receiver ≡ is_some q
      receiver_is o m st q e = sym (same_receiver c.sending (records c) c.count ms.entries ms.elements o m st k ch fd.inside fd.is) ∙ ap is_some e

      pub send-shut : ch.senders ≡ 0 → Sends c ms (back Shut x)
      unfolding Represents
      send-shut z o m st = rw (way.send-shut (facts c ms) m k (chan m k) (finds c ms k ch fd o m st) w x (no_senders o m st z)) (refl, refl, st, λ _. (refl, refl))

      module _ (some : ch.senders ≡ 0 → ⊥) where
        pub send-closed : ch.queue ≡ None → Sends c ms (Ok (Closed x))
        unfolding Represents
        send-closed e o m st = rw (way.send-closed (facts c ms) m k (chan m k) (finds c ms k ch fd o m st) w x (some_senders o m st some) (receiver_is o m st None e)) (refl, refl, st, λ b. absurd (both_ways _ b refl))

        module _ (q : Queue) (eq : ch.queue ≡ Some q) where
          shut_is : (o : Others T) (m : Meaning T) → Ch o m → c.count ≡ 0 → eqb (open_count m.chans) 0 ≡ true
          shut_is o m st z = eq-eqb _ _ (sym st.count ∙ z)

          pub send_wait : c.count ≡ 0 → (em' : Mem Entry) (s' : Queue) → Adds ms.entries c.sending (entry w k) em' s' (Ok tt) →
              Sends (remade c c.table s' c.count) (mems ms.elements em' ms.woken) (Ok (Wait x))
          unfolding Represents
          send_wait z em' s' a o m st =
              let b = a _ _ 0 st.waiting (omega arith, refl) in
              ⊎_elim
              (λ (h : 0 < freed ms.entries).
              let f : eqb (freed ms.entries) 0 ≡ false = ne_eqb _ _ (λ e. omega arith) in
              rw (way.send_wait (facts c ms) m k (chan m k) (finds c ms k ch fd o m st) w x (some_senders o m st some) (receiver_is o m st (Some q) eq) (shut_is o m st z) f)
              (refl, refl, record { waiting = (b.0 h).1; queued = st.queued; marks = st.marks; count = st.count; few = st.few }, λ u. absurd (both_ways _ u refl)))
              (λ (h : freed ms.entries ≤ 0). let d = (b.1 (omega arith)).0 in let u : ◌≡◌ {A = ℕ} 0 1 = cc in absurd (omega arith))
              (cases_lt 0 (freed ms.entries))

          pub send_full : c.count ≡ 0 → (em' : Mem Entry) (s' : Queue) (e' : Entry) → Adds ms.entries c.sending (entry w k) em' s' (Err e') →
              Sends (remade c c.table s' c.count) (mems ms.elements em' ms.woken) (back Places x)
          unfolding Represents
          send_full z em' s' e' a o m st =
              let b = a _ _ 0 st.waiting (omega arith, refl) in
              ⊎_elim
              (λ (h : 0 < freed ms.entries). let d = (b.0 h).0 in let u : ◌≡◌ {A = ℕ} 0 1 = cc in absurd (omega arith))
              (λ (h : freed ms.entries ≤ 0).
              let d = b.1 (omega arith) in
              let f : eqb (freed ms.entries) 0 ≡ true = eq-eqb _ _ (omega arith) in
              rw (d.1, d.2, way.send_full (facts c ms) m k (chan m k) (finds c ms k ch fd o m st) w x (some_senders o m st some) (receiver_is o m st (Some q) eq) (shut_is o m st z) f) (refl, refl, st, λ _. (refl, refl)))
              (cases_lt 0 (freed ms.entries))

          module _ (up : c.count ≡ 0 → ⊥) where
            open_is : (o : Others T) (m : Meaning T) → Ch o m → eqb (open_count m.chans) 0 ≡ false
            open_is o m st = ne_eqb _ _ (λ e. up (st.count ∙ e))

            line : (o : Others T) (m : Meaning T) → Ch o m → Is (map (λ r. line_of r.queue) (records c) ++ o.lines) k q
            line o m st =
                let e : line_of ch.queue ≡ q = ap line_of eq in
                rw e at (is_line c.sending (records c) c.count ms.entries ms.elements o m st k ch fd.inside fd.is)

            pub send_short : (xm' : Mem T) (q' : Queue) (y : T) → Adds ms.elements q x xm' q' (Err y) → (t' : List Channel) → t' ≡ set c.table k (requeued ch q' ch.receiving) →
                Sends (remade c t' c.sending c.count) (mems xm' ms.entries ms.woken) (back Cells y)
            unfolding Represents
            send_short xm' q' y a t' et o m st =
                let b = a _ _ k st.queued (line o m st) in
                ⊎_elim
                (λ (h : 0 < freed ms.elements). let d = (b.0 h).0 in let u : ◌≡◌ {A = ℕ} 0 1 = cc in absurd (omega arith))
                (λ (h : freed ms.elements ≤ 0).
                let d = b.1 (omega arith) in
                let ey : y ≡ x = let e = d.0 in cc in
                let f : eqb (freed ms.elements) 0 ≡ true = eq-eqb _ _ (omega arith) in
                let same : t' ≡ c.table = et ∙ unwritten c (facts c ms).fit k ch _ fd (ap (λ (u : Queue). requeued ch u ch.receiving) d.2 ∙ requeued_same ch q eq) in
                rw (ey, d.1, same, way.send_short (facts c ms) m k (chan m k) (finds c ms k ch fd o m st) w x (some_senders o m st some) (receiver_is o m st (Some q) eq) (open_is o m st) f) (refl, refl, st, λ _. (refl, refl)))
                (cases_lt 0 (freed ms.elements))

            -- a cell was free
            module _ (xm' : Mem T) (q' : Queue) (a : Adds ms.elements q x xm' q' (Ok tt)) where
              room : (o : Others T) (m : Meaning T) → Ch o m → 0 < freed ms.elements
              room o m st =
                  ⊎_elim
                  (λ (h : 0 < freed ms.elements). h)
                  (λ (h : freed ms.elements ≤ 0). let d = ((a _ _ k st.queued (line o m st)).1 (omega arith)).0 in let u : ◌≡◌ {A = ℕ} 0 1 = cc in absurd (omega arith))
                  (cases_lt 0 (freed ms.elements))

              free_is : (o : Others T) (m : Meaning T) → Ch o m → eqb (freed ms.elements) 0 ≡ false
              free_is o m st = ne_eqb _ _ (λ e. let h = room o m st in omega arith)

              -- the channel's queue with the element
              kept : (o : Others T) (m : Meaning T) → Ch o m →
                  Keeps xm' (set (map (λ r. line_of r.queue) (records c) ++ o.lines) k q') (set (map (λ c. c.queue) m.chans ++ o.queued) k (push (chan m k).queue x))
              kept o m st =
                  let li = line_is c.sending (records c) c.count ms.entries ms.elements o m st k ch fd.inside fd.is in
                  rw li at ((a _ _ k st.queued (line o m st)).0 (room o m st)).1

              length_is : (o : Others T) (m : Meaning T) → Ch o m → q.len ≡ length (chan m k).queue
              length_is o m st = sym (ap (λ (u : Option Queue). (line_of u).len) eq) ∙ line_len c.sending (records c) c.count ms.entries ms.elements o m st k ch fd.inside fd.is

              marked : (o : Others T) (m : Meaning T) → Ch o m → (p : Queue) → mark_of (requeued ch q' p) ≡ mark (chan m k)
              marked o m st p = let r = receiver_is o m st (Some q) eq in let s = same_senders c.sending (records c) c.count ms.entries ms.elements o m st k ch fd.inside fd.is in rw (r, s) refl

              pub send_behind : (q.len ≡ 0 → ⊥) → (t' : List Channel) → t' ≡ set c.table k (requeued ch q' ch.receiving) →
                  Sends (remade c t' c.sending c.count) (mems xm' ms.entries ms.woken) (Ok (Sent 0))
              unfolding Represents
              send_behind long t' et o m st =
                  let s = c.sending in let rs = records c in let n = c.count in
                  let ln = length_is o m st in
                  let no : none (chan m k).queue ≡ false = none_is (chan m k).queue ∙ ne_eqb _ _ (λ e. long (ln ∙ e)) in
                  let ct : n + bit (is_open (chan m k)) ≡ n + bit (is_open (with_queue (push (chan m k).queue x) (chan m k))) = rw (no, none-push (chan m k).queue x) refl in
                  let kw = waits_kept s rs n ms.entries ms.elements o m st k ch fd.inside fd.is in
                  let z = stands_set s rs n ms.entries ms.elements o m st k ch fd.inside fd.is s (requeued ch q' ch.receiving) n ms.entries xm' m.sending (with_queue (push (chan m k).queue x) (chan m k)) kw (kept o m st) (marked o m st ch.receiving) ct in
                  let z2 : Stands s (take c.n t') n ms.entries xm' o (record { chans = set m.chans k (with_queue (push (chan m k).queue x) (chan m k)); sending = m.sending }) =
                  rw (et, take-set c.n c.table k (requeued ch q' ch.receiving)) z in
                  rw (way.send_behind (facts c ms) m k (chan m k) (finds c ms k ch fd o m st) w x (some_senders o m st some) (receiver_is o m st (Some q) eq) (open_is o m st) (free_is o m st) no)
                  (refl, refl, z2, λ u. absurd (both_ways _ u refl))

              pub send_first : q.len ≡ 0 → (em' : Mem Entry) (p' : Queue) (w' : List ℕ) (named : ℕ) → Names ms.entries ch.receiving ms.woken em' p' w' named →
                  (t' : List Channel) (n' : ℕ) → t' ≡ set c.table k (requeued ch q' p') → n' ≡ c.count - 1 →
                  Sends (remade c t' c.sending n') (mems xm' em' w') (Ok (Sent named))
              unfolding Represents
              send_first short em' p' w' named nm t' n' et en o m st =
                  let s = c.sending in let rs = records c in let n = c.count in
                  let ln = length_is o m st in
                  let no : none (chan m k).queue ≡ true = none_is (chan m k).queue ∙ eq-eqb _ _ (sym ln ∙ short) in
                  let wi = wait_is s rs n ms.entries ms.elements o m st k ch fd.inside fd.is in
                  let d = nm _ _ (suc k) st.waiting (is_wait s rs n ms.entries ms.elements o m st k ch fd.inside fd.is) (woken_room c ms _ _ (suc k) st.waiting fd.fit) in
                  let ew = rw wi at d.1 in let er = rw wi at d.2 in
                  let new = with_receiving [] (with_queue (push (chan m k).queue x) (chan m k)) in
                  let sn : ltb 0 (chan m k).senders ≡ true = lt-ltb _ _ (let e = same_senders s rs n ms.entries ms.elements o m st k ch fd.inside fd.is in let u : (chan m k).senders ≡ 0 → ⊥ = λ v. some (e ∙ v) in omega arith) in
                  let c1 : bit (is_open (chan m k)) ≡ 1 = rw (receiver_is o m st (Some q) eq, sn, no) refl in
                  let c2 : bit (is_open new) ≡ 0 = rw (none-push (chan m k).queue x) (no_queue (chan m k).receiver (ltb 0 (chan m k).senders)) in
                  let ct : n' + bit (is_open (chan m k)) ≡ n + bit (is_open new) = omega arith in
                  let z = stands_set s rs n ms.entries ms.elements o m st k ch fd.inside fd.is s (requeued ch q' p') n' em' xm' m.sending new d.0 (kept o m st) (marked o m st p') ct in
                  let z2 : Stands s (take c.n t') n' em' xm' o (record { chans = set m.chans k new; sending = m.sending }) = rw (et, take-set c.n c.table k (requeued ch q' p')) z in
                  rw (way.send_first (facts c ms) m k (chan m k) (finds c ms k ch fd o m st) w x (some_senders o m st some) (receiver_is o m st (Some q) eq) (open_is o m st) (free_is o m st) no)
                  (ap (λ (u : ℕ). Ok (Sent u)) er, ew, z2, λ u. absurd (both_ways _ u refl))
