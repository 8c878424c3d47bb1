-- The ways out of a poll. Assumes nothing.
use Rattle.std.proofs.Common.{◌≡◌, ℕ, ◌^◌, ◌<◌, ◌≤◌, true, cond, not, eqb, ltb, List, [], ◌∷◌, length, get_or, take, drop, Some, None, Ok, Err, Option, Result, sym, refl, ap, ◌∙◌, subst, arith}
use Rattle.std.specs.List.{AllByRecursion}
use Rattle.std.proofs.ByRecursion.{All-get_or}
use Rattle.std.proofs.lemmas.List.{take_at}
use Rattle.std.proofs.lemmas.Option.{slice_get-get_or}
use Rattle.std.proofs.lemmas.Bool.{cond-true, cond-false, cond_both, eq-eqb, ne_eqb, lt-ltb, le-ltb, both_ways}
use Rattle.refusal.specs.declared.Refusal.{Refusal}
use Rattle.refusal.specs.declared.Refusal.TheVariants.{Lengths}
use Rattle.bank.specs.Lists.{oldest}
use Rattle.bank.specs.Banks.{Mem, Keeps, size, ReadsOldest}
use Rattle.resources.specs.declared.cause.Cause.{Cause}
use Rattle.resources.specs.declared.cause.Cause.TheVariants.{Device}
use Rattle.resources.specs.Files.{File, Files, batch_at, laid, ReadLawful, read_place}
use Rattle.resources.specs.History.{batches_of}
use Rattle.spill_pool.specs.declared.fault.Fault.{Fault}
use Rattle.spill_pool.specs.declared.fault.StoreCall.TheVariants.{Read}
use Rattle.spill_pool.specs.declared.FileRecord.{FileRecord}
use Rattle.spill_pool.specs.declared.OpenFile.{OpenFile}
use Rattle.spill_pool.specs.declared.PoolPoll.{PoolPoll}
use Rattle.spill_pool.specs.declared.PoolPoll.TheVariants.{Batch as Given, Faulty, Wait, End}
use Rattle.spill_pool.specs.declared.SpillPool.{SpillPool}
use Rattle.spill_pool.specs.Faults.{store_fault}
use Rattle.spill_pool.specs.Meaning.{Setup, Pool, Kind, Lawful, Replies, Facts, Frame, Sound, Stored, PollLawful, PollLawfulAt, advanced, is_spent, open_file}
use Rattle.spill_pool.specs.Steps.{Out, out, ahead, swept, words_or, rest as resting, read_by, poll_of, poll_step}
use Rattle.spill_pool.specs.Histories.{polling, polls}
use Rattle.spill_pool.specs.Calls.{Others, Shows, Advances, facts_of, Represents, Chronicles, Polls}
use Rattle.spill_pool.proofs.Settling.{spent_parts}
use Rattle.spill_pool.proofs.Reading.{polled}
use Rattle.spill_pool.proofs.Placing.{first}
use Rattle.spill_pool.proofs.Doing.{unasked, poll_unasked, does_by, stays_by, chronicled}

-- the record of the open file shows the same once the oldest was read from
shows_same : (c : Option OpenFile) (n : FileRecord) (rs : List FileRecord) → Shows c (open_file (n ∷ rs)) → Shows c (open_file (advanced n ∷ rs))
shows_same c n [] s =
    cond_both n.finished None (Some (advanced n)) (Shows c)
    (λ f. subst (Shows c) (cond-true n.finished None (Some n) f) s)
    (λ f. subst (Shows c) (cond-false n.finished None (Some n) f) s)
shows_same c n (x ∷ xs) s = s

shows_rest : (c : Option OpenFile) (n : FileRecord) (rs : List FileRecord) → n.finished ≡ true → Shows c (open_file (n ∷ rs)) → Shows c (open_file rs)
shows_rest c n [] f s = subst (Shows c) (cond-true n.finished None (Some n) f) s
shows_rest c n (x ∷ xs) f s = s

shows_ahead : (c : Option OpenFile) (n : FileRecord) (rs : List FileRecord) → Shows c (open_file (n ∷ rs)) → Shows c (open_file (ahead (advanced n) rs))
shows_ahead c n rs s =
    cond_both (is_spent (advanced n)) rs (advanced n ∷ rs) (λ (u : List FileRecord). Shows c (open_file u))
    (λ e. shows_rest c n rs (spent_parts 0 0 (advanced n) e).0 s)
    (λ _. shows_same c n rs s)

-- a batch of w words at the front of a place
laid_front : (w : ℕ) (o : Option File) (i : ℕ) (place : List ℕ) → i < length (batches_of o) → AllByRecursion (λ ws. length ws ≡ w) (batches_of o) → take w (laid (batch_at o i) place) ≡ words_or (batch_at o i)
laid_front w None i place l a = absurd (omega arith)
laid_front w (Some f) i place l a =
    let ws = get_or f.batches i [] in
    let e = slice_get-get_or f.batches i [] l in
    let n : length ws ≡ w = All-get_or (λ v. length v ≡ w) f.batches i [] l a in
    ap (λ (u : Option (List ℕ)). take w (laid u place)) e ∙ take_at ws (drop (length ws) place) w n ∙ ap words_or (sym e)

module _ {P : Type 0} {k : Kind P} (law : Lawful k) (p : SpillPool P) (d : Mem FileRecord) (fs : Files) where
  abbrev step : Setup → Facts → Pool → Files → Replies → Out (Result (PoolPoll P) Refusal)
  step s f m gs a = poll_step s k.reading f m gs a

  polls_stay : (r : Result (PoolPoll P) Refusal) → ((o : Others) (m : Pool) → Represents k.width p d fs o m → step p.setup (facts_of p d) m fs unasked ≡ out r m fs) → Polls k p d fs p d fs r
  polls_stay r e o m rep = stays_by PollLawful step k.width p d fs r o m rep unasked (poll_unasked fs m.files) (e o m rep)

  pub polls_unfit : (p.places ≡ size d → ⊥) → Polls k p d fs p d fs (Err Lengths)
  unfolding poll_step
  polls_unfit n = polls_stay (Err Lengths) (λ o m rep. unfit m)
    where
      unfit : (m : Pool) → step p.setup (facts_of p d) m fs unasked ≡ out (Err Lengths) m fs
      unfit m = cond-true (not (facts_of p d).fit) _ _ (ap not (ne_eqb p.places (size d) n))

  module _ (fit : p.places ≡ size d) where
    goes : (m : Pool) (a : Replies) (rs : List FileRecord) → m.files ≡ rs → step p.setup (facts_of p d) m fs a ≡ poll_of p.setup k.reading m fs a rs
    unfolding poll_step
    goes m a rs e = cond-false (not (facts_of p d).fit) _ _ (ap not (eq-eqb p.places (size d) fit)) ∙ ap (poll_of p.setup k.reading m fs a) e

    rest_is : (t : PoolPoll P) → t ≡ cond (eqb p.sinks 0) End Wait → (o : Others) (m : Pool) → Represents k.width p d fs o m → resting m ≡ t
    rest_is t e o m rep = ap (λ (n : ℕ). cond (eqb n 0) End Wait) (sym rep.sinks) ∙ sym e

    pub polls_none : (t : PoolPoll P) → t ≡ cond (eqb p.sinks 0) End Wait → ReadsOldest d p.files None → Polls k p d fs p d fs (Ok t)
    polls_none t e found = polls_stay (Ok t) (λ o m rep. by o m rep m.files refl)
      where
        by : (o : Others) (m : Pool) → Represents k.width p d fs o m → (rs : List FileRecord) → m.files ≡ rs → step p.setup (facts_of p d) m fs unasked ≡ out (Ok t) m fs
        by o m rep [] q = goes m unasked [] q ∙ ap (λ (u : PoolPoll P). out (Ok u) m fs) (rest_is t e o m rep)
        by o m rep (x ∷ xs) q =
            let h = found (p.files ∷ o.queues) (m.files ∷ o.lists) 0 rep.files (first p.files o.queues) in
            let g : oldest m.files ≡ Some x = ap oldest q in
            absurd (cc)

    -- n is the oldest record
    module _ (n : FileRecord) (found : ReadsOldest d p.files (Some n)) where
      the_oldest : (o : Others) (m : Pool) → Represents k.width p d fs o m → (rs : List FileRecord) × (m.files ≡ n ∷ rs)
      the_oldest o m rep = by m.files refl
        where
          by : (u : List FileRecord) → m.files ≡ u → (rs : List FileRecord) × (m.files ≡ n ∷ rs)
          by [] q =
              let h = found (p.files ∷ o.queues) (m.files ∷ o.lists) 0 rep.files (first p.files o.queues) in
              let g : oldest m.files ≡ None = ap oldest q in
              absurd (cc)
          by (x ∷ xs) q =
              let h = found (p.files ∷ o.queues) (m.files ∷ o.lists) 0 rep.files (first p.files o.queues) in
              let g : oldest m.files ≡ Some x = ap oldest q in
              let e : x ≡ n = cc in
              (xs, q ∙ ap (λ (u : FileRecord). u ∷ xs) e)

      pub polls_drained : (t : PoolPoll P) → t ≡ cond (eqb p.sinks 0) End Wait → n.written ≤ n.read → Polls k p d fs p d fs (Ok t)
      polls_drained t e l = polls_stay (Ok t) (λ o m rep. let r = the_oldest o m rep in
          goes m unasked (n ∷ r.0) r.1 ∙ cond-false (ltb n.read n.written) _ _ (le-ltb n.read n.written l) ∙ ap (λ (u : PoolPoll P). out (Ok u) m fs) (rest_is t e o m rep))

      module _ (more : n.read < n.written) (idx : ℕ) (small : n.read < 2 ^ 32 → idx ≡ n.read) where
        asked : Result ℕ Cause → Replies
        asked c = record { create = Err Device; append = Err Device; finish = Err Device; read = c }

        same_index : (o : Others) (m : Pool) → Represents k.width p d fs o m → idx ≡ n.read
        same_index o m rep = let r = the_oldest o m rep in let g = (subst (AllByRecursion (λ x. Stored k.width p.setup.maximum (fs x.number) x)) r.1 rep.sound.stored).0.most in small (omega arith)

        reads : (o : Others) (m : Pool) (rep : Represents k.width p d fs o m) (c : Result ℕ Cause) → step p.setup (facts_of p d) m fs (asked c) ≡ read_by p.setup k.reading m fs n (the_oldest o m rep).0 c
        unfolding asked
        reads o m rep c = let r = the_oldest o m rep in goes m (asked c) (n ∷ r.0) r.1 ∙ cond-true (ltb n.read n.written) _ _ (lt-ltb n.read n.written more)

        lawfully : (o : Others) (m : Pool) (rep : Represents k.width p d fs o m) (c : Result ℕ Cause) → ReadLawful fs n.number idx c → PollLawful fs m (asked c)
        unfolding asked
        lawfully o m rep c l = subst (PollLawfulAt fs (asked c)) (sym (the_oldest o m rep).1) (subst (λ (i : ℕ). ReadLawful fs n.number i c) (same_index o m rep) l)

        pub polls_faulty : (fs' : Files) (c : Cause) (t : Fault) → ReadLawful fs n.number idx (Err c) → fs' ≡ fs → t ≡ store_fault p.setup.partition Read n.number c → Polls k p d fs p d fs' (Ok (Faulty t))
        polls_faulty fs' c t l es et o m rep =
            does_by PollLawful step k.width p d fs (Ok (Faulty t)) o m rep p d fs' (asked (Err c)) (lawfully o m rep (Err c) l)
            (out (Ok (Faulty (store_fault p.setup.partition Read n.number c))) m fs) (reads o m rep (Err c)) (ap (λ (u : Fault). Ok (Faulty u)) et) es rep.files rep.current rep.sinks refl rep.sound
            (record { others = λ _ _ _. refl; gone = λ j a b. absurd (both_ways _ b a); new = λ j a b. absurd (both_ways _ a b) })

        -- the batch is read, and the record goes on
        pub polls_batch : (p' : SpillPool P) (d' : Mem FileRecord) (fs' : Files) (gs : Files) (l : ℕ) (x : P) (place old : List ℕ) (y : FileRecord) →
            ReadLawful fs n.number idx (Ok l) → gs ≡ fs → place ≡ read_place fs n.number idx old (Ok l) → x ≡ k.reading (take k.width place) → y ≡ advanced n →
            Advances y d p.files gs d' p'.files fs' → p'.current ≡ p.current → p'.sinks ≡ p.sinks → p'.setup.maximum ≡ p.setup.maximum → Polls k p d fs p' d' fs' (Ok (Given x))
        polls_batch p' d' fs' gs l x place old y lw eg ep ex ey adv ec es em o m rep =
            let r = the_oldest o m rep in let rs = r.0 in let i = same_index o m rep in
            let st = (subst (AllByRecursion (λ u. Stored k.width p.setup.maximum (fs u.number) u)) r.1 rep.sound.stored).0 in
            let lt : n.read < length (batches_of (fs n.number)) = let a = st.written in omega arith in
            let value : x ≡ k.reading (words_or (batch_at (fs n.number) n.read)) =
            ex ∙ ap (λ (u : List ℕ). k.reading (take k.width u)) (ep ∙ ap (λ (j : ℕ). laid (batch_at (fs n.number) j) old) i)
            ∙ ap k.reading (laid_front k.width (fs n.number) n.read old lt st.wide) in
            let z = subst (λ (u : FileRecord). Advances u d p.files gs d' p'.files fs') ey adv o n rs (subst (λ (u : List FileRecord). Keeps d (p.files ∷ o.queues) (u ∷ o.lists)) r.1 rep.files) in
            let u = read_by p.setup k.reading m fs n rs (Ok l) in
            let q = subst (λ (v : Out (Result (PoolPoll P) Refusal)). Sound k.width p.setup.maximum v.store v.next × Frame m.files fs v.next.files v.store) (reads o m rep (Ok l))
            (let a = polled k p.setup (facts_of p d) m fs rep.sound (asked (Ok l)) in (a.sound, a.frame)) in
            does_by PollLawful step k.width p d fs (Ok (Given x)) o m rep p' d' fs' (asked (Ok l)) (lawfully o m rep (Ok l) lw) u (reads o m rep (Ok l))
            (ap (λ (v : P). Ok (Given v)) value) (z.1 ∙ ap (λ (v : Files). swept v (advanced n)) eg) z.0
            (subst (λ (c : Option OpenFile). Shows c (open_file (ahead (advanced n) rs))) (sym ec) (shows_ahead p.current n rs (subst (λ (v : List FileRecord). Shows p.current (open_file v)) r.1 rep.current)))
            (es ∙ rep.sinks) em q.0 q.1

  pub poll_history : (p' : SpillPool P) (d' : Mem FileRecord) (fs' : Files) (r : Result (PoolPoll P) Refusal) → Polls k p d fs p' d' fs' r → Chronicles polls k p d fs p' d' fs' r
  poll_history p' d' fs' r = chronicled k law PollLawful step polls (λ s n h m gs hs run f a l. polling run f a l) p d fs p' d' fs' r
