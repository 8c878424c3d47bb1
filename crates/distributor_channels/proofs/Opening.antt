-- Opening, and counting. Assumes nothing.
use Rattle.std.proofs.Common.{◌≡◌, ℕ, zero, suc, ◌<◌, ◌≤◌, true, cond, ltb, List, [], ◌∷◌, map, length, get_or, replicate, Some, sym, refl, ap, ◌∙◌, arith}
use lib.ListN.{length-replicate}
use Rattle.std.proofs.lemmas.Bool.{lt-ltb, le-leb, eq-eqb, and_from}
use Rattle.std.proofs.lemmas.List.Sums.{sum_by-cons}
use Rattle.bank.specs.Cells.{empty}
use Rattle.bank.specs.Banks.{Keeps, size}
use Rattle.bank.proofs.Numbering.{keeps_front, keeps_empties}
use Rattle.distributor_channels.specs.declared.Channel.{Channel}
use Rattle.distributor_channels.specs.declared.Channels.{Channels}
use Rattle.distributor_channels.specs.Meaning.{Chan, is_open, open_count, shut, opened}
use Rattle.distributor_channels.specs.Calls.{records, shut_record, line_of, record_open, tallied, Mems, Others, mark_of, mark, Represents, facts, Recounts}
use Rattle.distributor_channels.proofs.Standing.{same_length, same_open}

map-replicate : {A B : Type 0} (f : A → B) (n : ℕ) (a : A) → map f (replicate n a) ≡ replicate n (f a)
map-replicate f zero a = refl
map-replicate f (suc n) a = ap (λ ys. f a ∷ ys) (map-replicate f n a)

count-opened : (T : Type 0) (n v : ℕ) → 0 < v → open_count {T = T} (replicate n (record { queue = []; receiving = []; receiver = true; senders = v })) ≡ n
count-opened T zero v h = refl
count-opened T (suc n) v h = let r = count-opened T n v h in let t : ltb 0 v ≡ true = lt-ltb 0 v h in rw t (omega arith)

module _ {T : Type 0} where
  pub stands_opened : (c : Channels) (ms : Mems T) (n v : ℕ) (ch : Channel) → n ≤ 32 → 0 < v → ch ≡ record { queue = Some empty; receiving = empty; senders = v } →
      records c ≡ replicate n ch → c.sending ≡ empty → c.count ≡ n →
      (o : Others T) → Keeps ms.entries o.waits o.waiting → Keeps ms.elements o.lines o.queued → Represents c ms o (opened n v)
  unfolding Represents
  stands_opened c ms n v ch le pos ec rs es ect o kw kx =
      let new : Chan T = record { queue = []; receiving = []; receiver = true; senders = v } in
      let q : line_of ch.queue ≡ empty = ap (λ (u : Channel). line_of u.queue) ec in let p : ch.receiving ≡ empty = ap (λ (u : Channel). u.receiving) ec in
      let mk : mark_of ch ≡ mark new = ap mark_of ec in
      record {
        waiting = rw (es, rs, map-replicate (λ (r : Channel). r.receiving) n ch, p, map-replicate (λ (r : Chan T). r.receiving) n new) (keeps_front ms.entries _ _ (keeps_empties n ms.entries o.waits o.waiting kw));
        queued = rw (rs, map-replicate (λ (r : Channel). line_of r.queue) n ch, q, map-replicate (λ (r : Chan T). r.queue) n new) (keeps_empties n ms.elements o.lines o.queued kx);
        marks = rw (rs, map-replicate mark_of n ch, map-replicate mark n new, mk) refl;
        count = ect ∙ sym (count-opened T n v pos);
        few = simp length-replicate le;
      }

  -- lengths that were right at opening fit
  pub fits-opened : (c : Channels) (ms : Mems T) → c.cells ≡ size ms.elements → c.places ≡ size ms.entries → size ms.entries ≤ length ms.woken → (facts c ms).fit ≡ true
  fits-opened c ms ec ep le = and_from _ _ (eq-eqb _ _ ec) (and_from _ _ (eq-eqb _ _ ep) (le-leb _ _ le))

  tally_same : (rs : List Channel) (cs : List (Chan T)) → length rs ≡ length cs → ((k : ℕ) → k < length rs → record_open (get_or rs k shut_record) ≡ is_open (get_or cs k shut)) → tallied rs ≡ open_count cs
  tally_same [] [] e f = refl
  tally_same [] (c ∷ cs) e f = absurd (omega arith)
  tally_same (r ∷ rs) [] e f = absurd (omega arith)
  tally_same (r ∷ rs) (c ∷ cs) e f =
      let h = tally_same rs cs (omega arith) (λ k l. f (suc k) (omega arith)) in
      let b : record_open r ≡ is_open c = f 0 (omega arith) in
      rw (sum_by-cons (λ x. cond (record_open x) 1 0) r rs, b, h) refl

  pub recounted : (c : Channels) (ms : Mems T) (n : ℕ) → n ≡ tallied (records c) → Recounts c ms n
  unfolding Represents
  recounted c ms n e o m st =
      let t = tally_same (records c) m.chans (same_length c.sending (records c) c.count ms.entries ms.elements o m st)
      (λ k h. same_open c.sending (records c) c.count ms.entries ms.elements o m st k (get_or (records c) k shut_record) h refl) in
      (e ∙ t, e ∙ t ∙ sym st.count)
