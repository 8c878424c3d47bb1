-- The two closes, way by way. Assumes nothing.
use Rattle.std.proofs.Common.{◌≡◌, ℕ, suc, ◌+◌, ◌-◌, ◌<◌, ◌≤◌, Bool, true, false, not, eqb, ltb, List, [], ◌∷◌, ◌++◌, map, length, take, set, is_some, Some, None, Ok, Err, filter, Option, sym, refl, ap, ◌∙◌, arith}
use Rattle.std.proofs.lemmas.List.Filters.{length-filter_both}
use Rattle.std.proofs.lemmas.Bool.{both_ways, lt-ltb, eq-eqb, ne_eqb}
use Rattle.refusal.specs.declared.Refusal.{Refusal}
use Rattle.refusal.specs.declared.Refusal.TheVariants.{Closed as Shut}
use mir.Val.{bool_byte}
use Rattle.bank.specs.declared.Queue.{Queue}
use Rattle.bank.specs.Lists.{list, without}
use Rattle.bank.specs.Banks.{Mem, Is, Keeps, TakesOut}
use Rattle.bank.specs.Cells.{empty}
use Rattle.bank.proofs.Numbering.{keeps_less, keeps_reset}
use Rattle.bank.proofs.Laws.{is_here, keeps_same}
use Rattle.std.proofs.lemmas.List.{get_or-set_same, set-set}
use Rattle.distributor_channels.specs.declared.Entry.{Entry}
use Rattle.distributor_channels.specs.declared.Channel.{Channel}
use Rattle.distributor_channels.specs.declared.Channels.{Channels}
use Rattle.distributor_channels.specs.Meaning.{Meaning, bit, on, is_open, chan, with_receiving, with_senders, unheard}
use Rattle.distributor_channels.specs.Steps.{CloseAnswer, close_sender_step, close_receiver_step}
use Rattle.distributor_channels.specs.Naming.{Names, Empties}
use Rattle.distributor_channels.specs.Calls.{records, line_of, record_open, Mems, Others, Mark, mark_of, mark, Stands, Represents, facts, Does}
use Rattle.distributor_channels.proofs.Ways as way
use Rattle.distributor_channels.proofs.Standing.{take-set, no_sender, within, same_mark, same_senders, same_receiver, is_line, is_wait, wait_is, same_open, stands_set, waits_kept, lines_kept, count_at, Found, Lost}
use Rattle.distributor_channels.proofs.Sending.{remade, mems, woken_room, finds, finds_not}

-- the record with other entries and senders
abbrev pub left_by_lem : Channel → Queue → ℕ → Channel
left_by_lem ch p n = record { queue = ch.queue; receiving = p; senders = n }

-- a test as a number
pub as_bit : (b : Bool) → bool_byte b ≡ bit b
as_bit true = refl
as_bit false = refl

-- the record with another queue, or none
abbrev pub with_line : Channel → Option Queue → Channel
with_line ch q = record { queue = q; receiving = ch.receiving; senders = ch.senders }

-- the record without its receiver
abbrev pub unheard_by : Channel → Channel
unheard_by ch = record { queue = None; receiving = ch.receiving; senders = ch.senders }

module _ {T : Type 0} (c : Channels) (ms : Mems T) (k : ℕ) where
  abbrev Leaves : Channels → Mems T → CloseAnswer → Type 0
  Leaves c' ms' r = Does (λ f m. close_sender_step f m k) c ms c' ms' r

  abbrev Unhears : Channels → Mems T → CloseAnswer → Type 0
  Unhears c' ms' r = Does (λ f m. close_receiver_step f m k) c ms c' ms' r

  pub leave_unfound : {why : Refusal} → Lost c (facts c ms).fit k why → Leaves c ms (Err why)
  unfolding Represents
  leave_unfound {why} e o m st = rw (way.close_sender_unfound (facts c ms) m k why (finds_not c ms k e o m st)) (refl, refl, st, λ _. (refl, refl))

  pub unhear_unfound : {why : Refusal} → Lost c (facts c ms).fit k why → Unhears c ms (Err why)
  unfolding Represents
  unhear_unfound {why} e o m st = rw (way.close_receiver_unfound (facts c ms) m k why (finds_not c ms k e o m st)) (refl, refl, st, λ _. (refl, refl))

  module _ (ch : Channel) (fd : Found c (facts c ms).fit k ch) where
    abbrev Ch : Others T → Meaning T → Type 0
    Ch o m = Stands c.sending (records c) c.count ms.entries ms.elements o m

    module _ (o : Others T) (m : Meaning T) (st : Ch o m) where
      senders_are : ch.senders ≡ (chan m k).senders
      senders_are = same_senders c.sending (records c) c.count ms.entries ms.elements o m st k ch fd.inside fd.is

      receiver_is : (q : Option Queue) → ch.queue ≡ q → (chan m k).receiver ≡ is_some q
      receiver_is q e = sym (same_receiver c.sending (records c) c.count ms.entries ms.elements o m st k ch fd.inside fd.is) ∙ ap is_some e

      marked : mark_of ch ≡ mark (chan m k)
      marked = same_mark c.sending (records c) c.count ms.entries ms.elements o m st k ch fd.inside fd.is

      -- the count without the channel, if it counted
      counted_out : (n' : ℕ) → n' ≡ c.count - bit (record_open ch) → n' + bit (is_open (chan m k)) ≡ c.count + 0
      counted_out n' en =
          let e = ap bit (same_open c.sending (records c) c.count ms.entries ms.elements o m st k ch fd.inside fd.is) in
          let h = within c.sending (records c) c.count ms.entries ms.elements o m st k ch fd.inside fd.is in
          let some = count_at m.chans k h in let ct = st.count in omega arith

      -- a sender leaves: the record has other entries and fewer senders
      leaving : (t' : List Channel) (p' : Queue) (v n' : ℕ) (em' : Mem Entry) (es : List Entry) → t' ≡ set c.table k (left_by_lem ch p' v) →
          Keeps em' (c.sending ∷ set (map (λ r. r.receiving) (records c) ++ o.waits) k p') (m.sending ∷ set (map (λ c. c.receiving) m.chans ++ o.waiting) k es) →
          n' + bit (is_open (chan m k)) ≡ c.count + bit (is_open (with_senders v (chan m k))) →
          Stands c.sending (take c.n t') n' em' ms.elements o (record { chans = set m.chans k (with_receiving es (with_senders v (chan m k))); sending = m.sending })
      leaving t' p' v n' em' es et kw ct =
          let s = c.sending in let rs = records c in let n = c.count in
          let mk : mark_of (left_by_lem ch p' v) ≡ mark (with_receiving es (with_senders v (chan m k))) = ap (λ (u : Mark). record { receiver = u.receiver; senders = v }) marked in
          let kq = lines_kept s rs n ms.entries ms.elements o m st k ch fd.inside fd.is in
          let z = stands_set s rs n ms.entries ms.elements o m st k ch fd.inside fd.is s (left_by_lem ch p' v) n' em' ms.elements m.sending (with_receiving es (with_senders v (chan m k))) kw kq mk ct in
          rw (et, take-set c.n c.table k (left_by_lem ch p' v)) z

    pub leave-shut : ch.senders ≡ 0 → Leaves c ms (Err Shut)
    unfolding Represents
    leave-shut z o m st =
        rw (way.close_sender_shut (facts c ms) m k (chan m k) (finds c ms k ch fd o m st) (eq-eqb _ _ (sym (senders_are o m st) ∙ z))) (refl, refl, st, λ _. (refl, refl))

    module _ (some : ch.senders ≡ 0 → ⊥) where
      sender : (o : Others T) (m : Meaning T) → Ch o m → eqb (chan m k).senders 0 ≡ false
      sender o m st = ne_eqb _ _ (λ e. some (senders_are o m st ∙ e))

      pub leave_fewer : 1 < ch.senders → (v : ℕ) → v ≡ ch.senders - 1 → (t' : List Channel) → t' ≡ set c.table k (left_by_lem ch ch.receiving v) →
          Leaves (remade c t' c.sending c.count) ms (Ok 0)
      unfolding Represents
      leave_fewer many v ev t' et o m st =
          let sn = senders_are o m st in
          let one : eqb (chan m k).senders 1 ≡ false = ne_eqb _ _ (λ e. omega arith) in
          let ev2 : v ≡ (chan m k).senders - 1 = omega arith in
          let a : ltb 0 v ≡ true = lt-ltb 0 v (omega arith) in
          let b : ltb 0 (chan m k).senders ≡ true = lt-ltb 0 _ (omega arith) in
          let kw = waits_kept c.sending (records c) c.count ms.entries ms.elements o m st k ch fd.inside fd.is in
          let z = leaving o m st t' ch.receiving v c.count ms.entries (chan m k).receiving et kw (rw (a, b) refl) in
          rw (way.close_sender_fewer (facts c ms) m k (chan m k) (finds c ms k ch fd o m st) (sender o m st) one) (refl, refl, rw ev2 at z, λ u. absurd (both_ways _ u refl))

      pub leave_last : ch.senders ≤ 1 → (em' : Mem Entry) (p' : Queue) (w' : List ℕ) (named n' : ℕ) → Names ms.entries ch.receiving ms.woken em' p' w' named →
          n' ≡ c.count - bit (record_open ch) → (t' : List Channel) → t' ≡ set c.table k (left_by_lem ch p' 0) →
          Leaves (remade c t' c.sending n') (mems ms.elements em' w') (Ok named)
      unfolding Represents
      leave_last few em' p' w' named n' nm en t' et o m st =
          let s = c.sending in let rs = records c in let n = c.count in
          let sn = senders_are o m st in
          let one : eqb (chan m k).senders 1 ≡ true = eq-eqb _ _ (let u : (chan m k).senders ≡ 0 → ⊥ = λ v. some (sn ∙ v) in omega arith) in
          let wi = wait_is s rs n ms.entries ms.elements o m st k ch fd.inside fd.is in
          let d = nm _ _ (suc k) st.waiting (is_wait s rs n ms.entries ms.elements o m st k ch fd.inside fd.is) (woken_room c ms _ _ (suc k) st.waiting fd.fit) in
          let ew = rw wi at d.1 in let er = rw wi at d.2 in
          let ct : n' + bit (is_open (chan m k)) ≡ c.count + bit (is_open (with_senders 0 (chan m k))) = rw (no_sender (chan m k).receiver _) (counted_out o m st n' en) in
          let z = leaving o m st t' p' 0 n' em' [] et d.0 ct in
          rw (way.close_sender_last (facts c ms) m k (chan m k) (finds c ms k ch fd o m st) (sender o m st) one) (ap Ok er, ew, z, λ u. absurd (both_ways _ u refl))

    pub unhear_shut : ch.queue ≡ None → Unhears c ms (Err Shut)
    unfolding Represents
    unhear_shut e o m st =
        rw (way.close_receiver_shut (facts c ms) m k (chan m k) (finds c ms k ch fd o m st) (receiver_is o m st None e)) (refl, refl, st, λ _. (refl, refl))

    pub unhear_gone : (q : Queue) → ch.queue ≡ Some q → (n' : ℕ) → n' ≡ c.count - bit (record_open ch) → (xm' : Mem T) (q' : Queue) → Empties ms.elements q xm' q' →
        (em' : Mem Entry) (s' g : Queue) → TakesOut (on k) ms.entries c.sending em' s' g → (em'' : Mem Entry) (g' : Queue) (w' : List ℕ) (named : ℕ) → Names em' g ms.woken em'' g' w' named →
        (t' : List Channel) → t' ≡ set c.table k (unheard_by ch) → Unhears (remade c t' s' n') (mems xm' em'' w') (Ok named)
    unfolding Represents
    unhear_gone q eq n' en xm' q' a em' s' g to em'' g' w' named nm t' et o m st =
        let s = c.sending in let rs = records c in let n = c.count in
        let out = filter (on k) m.sending in let left = without (on k) m.sending in
        -- the entries: those of this channel are taken out, and named
        let b = (to _ _ 0 st.waiting (omega arith, refl)).0 in
        let room : length out ≤ length ms.woken = fewer_out o m st in
        let d = nm _ _ 0 b (omega arith, refl) room in
        let kw0 = keeps_less em'' g' _ _ d.0 in
        let m2 : Meaning T = record { chans = m.chans; sending = left } in
        let st2 : Stands s' rs n em'' ms.elements o m2 = record { waiting = kw0; queued = st.queued; marks = st.marks; count = st.count; few = st.few } in
        let kw = waits_kept s' rs n em'' ms.elements o m2 st2 k ch fd.inside fd.is in
        -- the queue is gone
        let e : line_of ch.queue ≡ q = ap line_of eq in
        let il : Is (map (λ r. line_of r.queue) rs ++ o.lines) k q = rw e at (is_line s rs n ms.entries ms.elements o m st k ch fd.inside fd.is) in
        let kq0 = a _ _ k st.queued il in
        let here = is_here _ k q q' il in
        let sm = keeps_same ms.elements _ _ st.queued in let ih = il.0 in
        let nil : list (set (map (λ c. c.queue) m.chans ++ o.queued) k []) k ≡ [] = get_or-set_same (map (λ c. c.queue) m.chans ++ o.queued) k [] [] (omega arith) in
        let kq : Keeps xm' (set (map (λ r. line_of r.queue) rs ++ o.lines) k empty) (set (map (λ c. c.queue) m.chans ++ o.queued) k []) = rw set-set at (keeps_reset xm' _ _ k kq0 here.0 nil) in
        let mk : mark_of (unheard_by ch) ≡ mark (unheard (chan m k)) = ap (λ (u : Mark). record { receiver = false; senders = u.senders }) (marked o m st) in
        let z = stands_set s rs n ms.entries ms.elements o m st k ch fd.inside fd.is s' (unheard_by ch) n' em'' xm' left (unheard (chan m k)) kw kq mk (counted_out o m st n' en) in
        let z2 : Stands s' (take c.n t') n' em'' xm' o (record { chans = set m.chans k (unheard (chan m k)); sending = left }) = rw (et, take-set c.n c.table k (unheard_by ch)) z in
        rw (way.close_receiver_gone (facts c ms) m k (chan m k) (finds c ms k ch fd o m st) (receiver_is o m st (Some q) eq)) (ap Ok d.2, d.1, z2, λ u. absurd (both_ways _ u refl))
      where
        fewer_out : (o : Others T) (m : Meaning T) → Ch o m → length (filter (on k) m.sending) ≤ length ms.woken
        fewer_out o m st =
            let l = woken_room c ms _ _ 0 st.waiting fd.fit in
            let e = length-filter_both (on k) (λ x. not (on k x)) (λ _. refl) m.sending in omega arith
