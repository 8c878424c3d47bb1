-- A poll: what it gives was the oldest of what is unread, the pool stays sound, and nothing else in the store changes. Assumes nothing.
use Rattle.std.proofs.Common.{◌≡◌, ℕ, suc, ◌<◌, ◌≤◌, true, false, not, eqb, ltb, List, [], ◌∷◌, ◌++◌, map, length, get_or, drop, Some, None, Ok, Err, Option, Result, sym, refl, ap, ◌∙◌, subst, ⊎_elim, add-one, arith, length-append, length-drop, drop-cons}
use lib.ListN.{length-map}
use Rattle.std.specs.List.{AllByRecursion}
use Rattle.std.proofs.lemmas.Option.{slice_get-get_or}
use Rattle.std.proofs.lemmas.Bool.{cases_Bool, cases_eq, cond-true, cond-false, cond_both, eq-eqb, ne_eqb, ltb-true, ltb-false, or_from, or_parts, both_ways}
use Rattle.refusal.specs.declared.Refusal.{Refusal}
use Rattle.bank.specs.Lists.{older}
use Rattle.resources.specs.declared.cause.Cause.{Cause}
use Rattle.resources.specs.Files.{File, Files, batch_at, remove_after}
use Rattle.resources.specs.History.{batches_of}
use Rattle.spill_pool.specs.declared.FileRecord.{FileRecord}
use Rattle.spill_pool.specs.declared.PoolPoll.{PoolPoll}
use Rattle.spill_pool.specs.declared.PoolPoll.TheVariants.{Wait, End}
use Rattle.spill_pool.specs.Meaning.{Setup, Pool, Facts, Replies, Kind, Stored, Used, Sound, Frame, advanced, is_spent, among, left, unread}
use Rattle.spill_pool.specs.Steps.{Out, pool, ahead, swept, words_or, rest as resting, read_by, poll_of, poll_step}
use Rattle.spill_pool.specs.Histories.{gives, rests}
use Rattle.spill_pool.proofs.Listing.{agree_put, open_none, open_finished, all_rest}
use Rattle.spill_pool.proofs.Settling.{AllStored, stored_agree, unread_agree, left-none, spent_parts, unspent}
use Rattle.spill_pool.proofs.Pushing.{swept_here, swept_there, frame_same}

-- the batch at an index
pub words_at : (o : Option File) (i : ℕ) → i < length (batches_of o) → words_or (batch_at o i) ≡ get_or (batches_of o) i []
words_at None i h = absurd (omega arith)
words_at (Some f) i h = ap words_or (slice_get-get_or f.batches i [] h)

-- what is known after a poll
pub record Polled {P : Type 0} (k : Kind P) (s : Setup) (m : Pool) (fs : Files) (o : Out (Result (PoolPoll P) Refusal)) : Type 0 where
  pub sound : Sound k.width s.maximum o.store o.next
  pub frame : Frame m.files fs o.next.files o.store
  pub unread : unread k.reading fs m.files ≡ gives o.answer ++ unread k.reading o.store o.next.files

-- of older files of a longer list
older-rest : (r : FileRecord) (rs : List FileRecord) → AllByRecursion (λ x. x.finished ≡ true) (older (r ∷ rs)) → AllByRecursion (λ x. x.finished ≡ true) (older rs)
older-rest r [] a = tt
older-rest r (x ∷ xs) (p, q) = q

-- the same, with another first file
older_first : (r y : FileRecord) (rs : List FileRecord) → y.finished ≡ r.finished → AllByRecursion (λ x. x.finished ≡ true) (older (r ∷ rs)) → AllByRecursion (λ x. x.finished ≡ true) (older (y ∷ rs))
older_first r y [] e a = tt
older_first r y (x ∷ xs) e (p, q) = (e ∙ p, q)

module _ {P : Type 0} (k : Kind P) (s : Setup) where
  module _ (r : FileRecord) (rs : List FileRecord) (n : ℕ) (fs : Files) (sound : Sound k.width s.maximum fs (pool (r ∷ rs) n)) (more : r.read < r.written) where
    abbrev y : FileRecord
    y = advanced r

    good : Stored k.width s.maximum (fs r.number) y
    good = let g = sound.stored.0 in record { there = g.there; written = g.written; wide = g.wide; read = omega arith; most = g.most; sum = g.sum; live = g.live; short = g.short; light = g.light }

    finished : n ≡ 0 → AllByRecursion (λ x. x.finished ≡ true) (r ∷ rs)
    finished z = open_none (r ∷ rs) (sound.idle z) sound.order

    ahead_sound : Sound k.width s.maximum (swept fs y) (pool (ahead y rs) n)
    ahead_sound =
        ⊎_elim
        (λ (e : is_spent y ≡ true).
        subst (λ (u : List FileRecord). Sound k.width s.maximum (swept fs y) (pool u n)) (sym (cond-true (is_spent y) rs (y ∷ rs) e))
        (subst (λ (hs : Files). Sound k.width s.maximum hs (pool rs n)) (sym (cond-true (is_spent y) (remove_after fs r.number) fs e)) (record {
          stored = stored_agree k.width s.maximum fs (remove_after fs r.number) rs (agree_put rs fs r.number None sound.apart.0) sound.stored.1;
          used = sound.used.1;
          fresh = all_rest (λ x. x.read ≡ 0) rs sound.fresh;
          order = older-rest r rs sound.order;
          apart = sound.apart.1;
          idle = λ z. open_finished rs (finished z).1;
        })))
        (λ (e : is_spent y ≡ false).
        subst (λ (u : List FileRecord). Sound k.width s.maximum (swept fs y) (pool u n)) (sym (cond-false (is_spent y) rs (y ∷ rs) e))
        (subst (λ (hs : Files). Sound k.width s.maximum hs (pool (y ∷ rs) n)) (sym (cond-false (is_spent y) (remove_after fs r.number) fs e)) (record {
          stored = (good, sound.stored.1);
          used = (record { some = sound.used.0.some; over = unspent k.width s.maximum (fs r.number) y good e }, sound.used.1);
          fresh = sound.fresh;
          order = older_first r y rs refl sound.order;
          apart = sound.apart;
          idle = λ z. open_finished (y ∷ rs) (finished z);
        })))
        (cases_Bool (is_spent y))

    read_one : map k.reading (left (fs r.number) r) ≡ k.reading (words_or (batch_at (fs r.number) r.read)) ∷ map k.reading (left (fs r.number) y)
    read_one =
        let o = fs r.number in
        let l : r.read < length (batches_of o) = let g = sound.stored.0.written in omega arith in
        ap (map k.reading) (drop-cons (batches_of o) r.read [] l)
        ∙ ap (λ (u : List ℕ). k.reading u ∷ map k.reading (drop (suc r.read) (batches_of o))) (sym (words_at o r.read l))
        ∙ ap (λ (j : ℕ). k.reading (words_or (batch_at o r.read)) ∷ map k.reading (drop j (batches_of o))) (sym (add-one r.read))

    ahead-unread : unread k.reading fs (r ∷ rs) ≡ k.reading (words_or (batch_at (fs r.number) r.read)) ∷ unread k.reading (swept fs y) (ahead y rs)
    ahead-unread =
        ap (λ (u : List P). u ++ unread k.reading fs rs) read_one
        ∙ ap (λ (u : List P). k.reading (words_or (batch_at (fs r.number) r.read)) ∷ u)
        (⊎_elim
        (λ (e : is_spent y ≡ true).
        ap (λ (u : List P). u ++ unread k.reading fs rs) (left-none k.width s.maximum k.reading (fs r.number) y good (spent_parts k.width s.maximum y e).1)
        ∙ sym (unread_agree k.width s.maximum k.reading fs (remove_after fs r.number) rs (agree_put rs fs r.number None sound.apart.0))
        ∙ ap (λ (hs : Files). unread k.reading hs rs) (sym (cond-true (is_spent y) (remove_after fs r.number) fs e))
        ∙ ap (unread k.reading (swept fs y)) (sym (cond-true (is_spent y) rs (y ∷ rs) e)))
        (λ (e : is_spent y ≡ false).
        ap (λ (hs : Files). unread k.reading hs (y ∷ rs)) (sym (cond-false (is_spent y) (remove_after fs r.number) fs e))
        ∙ ap (unread k.reading (swept fs y)) (sym (cond-false (is_spent y) rs (y ∷ rs) e)))
        (cases_Bool (is_spent y)))

    ahead_frame : Frame (r ∷ rs) fs (ahead y rs) (swept fs y)
    ahead_frame =
        ⊎_elim
        (λ (e : is_spent y ≡ true).
        subst (λ (u : List FileRecord). Frame (r ∷ rs) fs u (swept fs y)) (sym (cond-true (is_spent y) rs (y ∷ rs) e)) (record {
          others = λ j a _. swept_there fs y j (or_parts (eqb r.number j) (among j rs) a).0;
          gone = λ j a b.
              ⊎_elim
              (λ (h : r.number ≡ j). ap (swept fs y) (sym h) ∙ swept_here fs y e)
              (λ (h : r.number ≡ j → ⊥). absurd (both_ways (among j (r ∷ rs)) (or_from _ _ (ne_eqb r.number j h) b) a))
              (cases_eq r.number j);
          new = λ j a b. absurd (both_ways (among j rs) (or_parts (eqb r.number j) (among j rs) a).1 b);
        }))
        (λ (e : is_spent y ≡ false).
        subst (λ (u : List FileRecord). Frame (r ∷ rs) fs u (swept fs y)) (sym (cond-false (is_spent y) rs (y ∷ rs) e))
        (subst (λ (hs : Files). Frame (r ∷ rs) fs (y ∷ rs) hs) (sym (cond-false (is_spent y) (remove_after fs r.number) fs e)) (record {
          others = λ _ _ _. refl;
          gone = λ j a b. absurd (both_ways (among j (r ∷ rs)) b a);
          new = λ j a b. absurd (both_ways (among j (r ∷ rs)) a b);
        })))
        (cases_Bool (is_spent y))

  module _ (f : Facts) (m : Pool) (fs : Files) (sound : Sound k.width s.maximum fs m) (a : Replies) where
    stays : (r : Result (PoolPoll P) Refusal) → gives r ≡ [] → Polled k s m fs (record { answer = r; next = m; store = fs })
    stays r e = record { sound = sound; frame = frame_same m.files fs; unread = ap (λ (u : List P). u ++ unread k.reading fs m.files) (sym e) }

    rest_gives : gives {P = P} (Ok (resting m)) ≡ []
    rest_gives = cond_both (eqb m.sinks 0) End Wait (λ (u : PoolPoll P). gives (Ok u) ≡ []) (λ _. refl) (λ _. refl)

    read_by_lem : (r : FileRecord) (rs : List FileRecord) → m.files ≡ r ∷ rs → ltb r.read r.written ≡ true → (c : Result ℕ Cause) → Polled k s m fs (read_by s k.reading m fs r rs c)
    read_by_lem r rs e l (Ok n) =
        let so : Sound k.width s.maximum fs (pool (r ∷ rs) m.sinks) = subst (λ (u : List FileRecord). Sound k.width s.maximum fs (pool u m.sinks)) e sound in
        let t = ltb-true r.read r.written l in
        record {
          sound = ahead_sound r rs m.sinks fs so t;
          frame = subst (λ (u : List FileRecord). Frame u fs (ahead (advanced r) rs) (swept fs (advanced r))) (sym e) (ahead_frame r rs m.sinks fs so t);
          unread = ap (unread k.reading fs) e ∙ ahead-unread r rs m.sinks fs so t;
        }
    read_by_lem r rs e l (Err c) = stays _ refl

    poll_of_lem : (rs : List FileRecord) → m.files ≡ rs → Polled k s m fs (poll_of s k.reading m fs a rs)
    poll_of_lem [] e = stays _ rest_gives
    poll_of_lem (r ∷ rs) e = cond_both (ltb r.read r.written) _ _ (Polled k s m fs) (λ l. read_by_lem r rs e l a.read) (λ _. stays _ rest_gives)

    pub polled : Polled k s m fs (poll_step s k.reading f m fs a)
    unfolding poll_step
    polled = cond_both (not f.fit) _ _ (Polled k s m fs) (λ _. stays _ refl) (λ _. poll_of_lem m.files refl)

    -- a poll rests exactly when nothing is unread
    rest-rests : rests {P = P} (Ok (resting m)) ≡ true
    rest-rests = cond_both (eqb m.sinks 0) End Wait (λ (u : PoolPoll P). rests (Ok u) ≡ true) (λ _. refl) (λ _. refl)

    read_rests : (r : FileRecord) (rs : List FileRecord) (c : Result ℕ Cause) → rests (read_by s k.reading m fs r rs c).answer ≡ false
    read_rests r rs (Ok n) = refl
    read_rests r rs (Err c) = refl

    -- an oldest file that was read to its end is the only one
    read_out : (r : FileRecord) (rs : List FileRecord) → m.files ≡ r ∷ rs → r.written ≤ r.read → unread k.reading fs (r ∷ rs) ≡ []
    read_out r rs e l = by rs e
      where
        open' : (u : List FileRecord) → m.files ≡ r ∷ u → r.finished ≡ false
        open' u q =
            ⊎_elim
            (λ (h : r.finished ≡ true). absurd (let v = (subst (AllByRecursion Used) q sound.used).0.over h in omega arith))
            (λ (h : r.finished ≡ false). h)
            (cases_Bool r.finished)

        by : (u : List FileRecord) → m.files ≡ r ∷ u → unread k.reading fs (r ∷ u) ≡ []
        by [] q = let g = (subst (AllStored k.width s.maximum fs) q sound.stored).0 in
            ap (λ (v : List P). v ++ []) (left-none k.width s.maximum k.reading (fs r.number) r g (let h = g.read in omega arith))
        by (x ∷ xs) q = absurd (both_ways r.finished (open' (x ∷ xs) q) (subst (λ (u : List FileRecord). AllByRecursion (λ v. v.finished ≡ true) (older u)) q sound.order).0)

    rests_of : (rs : List FileRecord) → m.files ≡ rs → rests (poll_of s k.reading m fs a rs).answer ≡ eqb (length (unread k.reading fs rs)) 0
    rests_of [] e = rest-rests
    rests_of (r ∷ rs) e =
        cond_both (ltb r.read r.written) (read_by s k.reading m fs r rs a.read) _ (λ (o : Out (Result (PoolPoll P) Refusal)). rests o.answer ≡ eqb (length (unread k.reading fs (r ∷ rs))) 0)
        (λ l. read_rests r rs a.read ∙ sym (ne_eqb _ 0 (λ z. some (ltb-true r.read r.written l) z)))
        (λ l. rest-rests ∙ sym (eq-eqb _ 0 (ap length (read_out r rs e (ltb-false r.read r.written l)))))
      where
        some : r.read < r.written → length (unread k.reading fs (r ∷ rs)) ≡ 0 → ⊥
        some l z =
            let g = (subst (AllStored k.width s.maximum fs) e sound.stored).0.written in
            let p = length-append (map k.reading (left (fs r.number) r)) (unread k.reading fs rs) in
            let q = length-map (left (fs r.number) r) k.reading in
            let d = length-drop r.read (batches_of (fs r.number)) in
            omega arith

    pub rests_when : f.fit ≡ true → rests (poll_step s k.reading f m fs a).answer ≡ eqb (length (unread k.reading fs m.files)) 0
    unfolding poll_step
    rests_when e =
        ap (λ (o : Out (Result (PoolPoll P) Refusal)). rests o.answer) (cond-false (not f.fit) _ (poll_of s k.reading m fs a m.files) (ap not e))
        ∙ rests_of m.files refl
