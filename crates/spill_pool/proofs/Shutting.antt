-- The ways out of a sink's close, and of removing all. Assumes nothing.
use Rattle.std.proofs.Common.{◌≡◌, ℕ, ◌-◌, ◌<◌, ◌≤◌, cond, not, eqb, List, [], ◌∷◌, Some, None, Ok, Err, Option, Result, sym, refl, ap, ◌∙◌, subst, arith}
use Rattle.std.specs.List.{AllByRecursion}
use Rattle.std.proofs.lemmas.Bool.{cond-true, cond-false, eq-eqb, ne_eqb}
use Rattle.refusal.specs.declared.Refusal.{Refusal}
use Rattle.refusal.specs.declared.Refusal.TheVariants.{Lengths, Closed as Shut}
use Rattle.bank.specs.declared.Queue.{Queue}
use Rattle.bank.specs.Lists.{older}
use Rattle.bank.specs.Banks.{Mem, Keeps, size}
use Rattle.resources.specs.declared.cause.Cause.TheVariants.{Device}
use Rattle.resources.specs.Files.{Files, FinishLawful, finish_after}
use Rattle.spill_pool.specs.declared.fault.Fault.{Fault}
use Rattle.spill_pool.specs.declared.FileRecord.{FileRecord}
use Rattle.spill_pool.specs.declared.OpenFile.{OpenFile}
use Rattle.spill_pool.specs.declared.SpillPool.{SpillPool}
use Rattle.spill_pool.specs.Meaning.{Setup, Pool, Kind, Lawful, Replies, Facts, Frame, Sound, Used, CloseLawful, CloseLawfulAt, ended, is_spent, open_file}
use Rattle.spill_pool.specs.Steps.{Out, out, pool, listed, swept, told, close_last, close_step, removed, remove_step}
use Rattle.spill_pool.specs.Histories.{closing, closes, removing, removes}
use Rattle.spill_pool.specs.Calls.{Others, record_of, with_read, Shows, Finishes, Settles, Clears, facts_of, Represents, Chronicles, Closes, Removes}
use Rattle.spill_pool.proofs.Listing.{all_push_parts}
use Rattle.spill_pool.proofs.Pushing.{last_parts}
use Rattle.spill_pool.proofs.Closing.{closed, cleared}
use Rattle.spill_pool.proofs.Spilling.{shows_listed, alone}
use Rattle.spill_pool.proofs.Doing.{unasked, close_unasked, does_by, stays_by, chronicled, shows_some, shows_none}

module _ {P : Type 0} {k : Kind P} (law : Lawful k) (p : SpillPool P) (d : Mem FileRecord) (fs : Files) where
  closes_stay : (r : Result (Option Fault) Refusal) → ((o : Others) (m : Pool) → Represents k.width p d fs o m → close_step p.setup (facts_of p d) m fs unasked ≡ out r m fs) → Closes k p d fs p d fs r
  closes_stay r e o m rep = stays_by CloseLawful close_step k.width p d fs r o m rep unasked (close_unasked fs (open_file m.files)) (e o m rep)

  pub closes_unfit : (p.places ≡ size d → ⊥) → Closes k p d fs p d fs (Err Lengths)
  unfolding close_step
  closes_unfit n = closes_stay (Err Lengths) (λ o m rep. unfit m)
    where
      unfit : (m : Pool) → close_step p.setup (facts_of p d) m fs unasked ≡ out (Err Lengths) m fs
      unfit m = cond-true (not (facts_of p d).fit) _ _ (ap not (ne_eqb p.places (size d) n))

  module _ (fit : p.places ≡ size d) where
    goes : (m : Pool) (a : Replies) → close_step p.setup (facts_of p d) m fs a ≡ cond (eqb m.sinks 0) (out (Err Shut) m fs) (cond (eqb m.sinks 1) (close_last p.setup m fs a (open_file m.files)) (out (Ok None) (pool m.files (m.sinks - 1)) fs))
    unfolding close_step
    goes m a = cond-false (not (facts_of p d).fit) _ _ (ap not (eq-eqb p.places (size d) fit))

    pub closes_shut : p.sinks ≡ 0 → Closes k p d fs p d fs (Err Shut)
    closes_shut z = closes_stay (Err Shut) (λ o m rep. goes m unasked ∙ cond-true (eqb m.sinks 0) _ _ (eq-eqb m.sinks 0 (sym rep.sinks ∙ z)))

    -- a sink is open; the pool after differs in its sinks
    module _ (p' : SpillPool P) (some : p.sinks ≡ 0 → ⊥) (es : p'.sinks ≡ p.sinks - 1) (em : p'.setup.maximum ≡ p.setup.maximum) where
      held : (o : Others) (m : Pool) → Represents k.width p d fs o m → (a : Replies) (u : Out (Result (Option Fault) Refusal)) → close_step p.setup (facts_of p d) m fs a ≡ u →
          Sound k.width p.setup.maximum u.store u.next × Frame m.files fs u.next.files u.store
      held o m rep a u e =
          subst (λ (v : Out (Result (Option Fault) Refusal)). Sound k.width p.setup.maximum v.store v.next × Frame m.files fs v.next.files v.store) e
          (let z = closed k p.setup (facts_of p d) m fs rep.sound a in (z.sound, z.frame))

      pub closes_fewer : 0 < p.sinks - 1 → p'.files ≡ p.files → p'.current ≡ p.current → Closes k p d fs p' d fs (Ok None)
      closes_fewer l ef ec o m rep =
          let s = rep.sinks in
          let u = out {A = Result (Option Fault) Refusal} (Ok None) (pool m.files (m.sinks - 1)) fs in
          let e = goes m unasked ∙ cond-false (eqb m.sinks 0) _ _ (ne_eqb m.sinks 0 (λ z. some (s ∙ z))) ∙ cond-false (eqb m.sinks 1) _ _ (ne_eqb m.sinks 1 (λ z. absurd (omega arith))) in
          let q = held o m rep unasked u e in
          does_by CloseLawful close_step k.width p d fs (Ok None) o m rep p' d fs unasked (close_unasked fs (open_file m.files)) u e refl refl
          (subst (λ (w : Queue). Keeps d (w ∷ o.queues) (m.files ∷ o.lists)) (sym ef) rep.files) (subst (λ (c : Option OpenFile). Shows c (open_file m.files)) (sym ec) rep.current) (es ∙ ap (λ (n : ℕ). n - 1) s) em q.0 q.1

      module _ (last : p.sinks - 1 ≤ 0) where
        goes_last : (o : Others) (m : Pool) → Represents k.width p d fs o m → (a : Replies) (f : Option FileRecord) → open_file m.files ≡ f → close_step p.setup (facts_of p d) m fs a ≡ close_last p.setup m fs a f
        goes_last o m rep a f e =
            let s = rep.sinks in
            goes m a ∙ cond-false (eqb m.sinks 0) _ _ (ne_eqb m.sinks 0 (λ z. some (s ∙ z)))
            ∙ cond-true (eqb m.sinks 1) _ _ (eq-eqb m.sinks 1 (one s)) ∙ ap (close_last p.setup m fs a) e
          where
            one : p.sinks ≡ m.sinks → m.sinks ≡ 1
            one s = let n : p.sinks ≡ 0 → ⊥ = some in omega arith

        none : p'.sinks ≡ 0
        none = omega arith

        pub closes_none : p.current ≡ None → p'.files ≡ p.files → p'.current ≡ None → Closes k p d fs p' d fs (Ok None)
        closes_none l ef ec o m rep =
            let n = shows_none p.current m.files rep.current l in
            let u = out {A = Result (Option Fault) Refusal} (Ok None) (pool m.files 0) fs in
            let e = goes_last o m rep unasked None n in
            let q = held o m rep unasked u e in
            does_by CloseLawful close_step k.width p d fs (Ok None) o m rep p' d fs unasked (close_unasked fs (open_file m.files)) u e refl refl
            (subst (λ (w : Queue). Keeps d (w ∷ o.queues) (m.files ∷ o.lists)) (sym ef) rep.files) (subst (λ (c : Option OpenFile). Shows c (open_file m.files)) (l ∙ sym ec) rep.current) none em q.0 q.1

        pub closes_last : (c : OpenFile) (v : FileRecord) → v ≡ record_of c → (d' : Mem FileRecord) (gs fs' : Files) (t : Option Fault) → p.current ≡ Some c → Finishes p.setup.partition c.number fs gs t →
            p'.current ≡ None → Settles (ended v) d p.files gs d' p'.files fs' → Closes k p d fs p' d' fs' (Ok t)
        closes_last c v ev d' gs fs' t l f ec st o m rep =
            let x = shows_some p.current c (open_file m.files) rep.current l in
            let r = x.0 in
            let b = last_parts k.width p.setup.maximum m fs rep.sound r x.1 in
            let a : Replies = record { create = Err Device; append = Err Device; finish = f.reply; read = Err Device } in
            let nr : c.number ≡ r.number = ap (λ (u : OpenFile). u.number) x.2 in
            let lw : FinishLawful fs r.number f.reply = subst (λ (n : ℕ). FinishLawful fs n f.reply) nr f.lawful in
            let u = out {A = Result (Option Fault) Refusal} (Ok (told p.setup.partition r.number f.reply)) (pool (listed (older m.files) (ended r)) 0) (swept (finish_after fs r.number f.reply) (ended r)) in
            let e = goes_last o m rep a (Some r) x.1 in
            let q = held o m rep a u e in
            let rc : with_read (ended v) r.read ≡ ended r = ap (λ (w : FileRecord). with_read (ended w) r.read) ev ∙ ap (λ (w : OpenFile). with_read (ended (record_of w)) r.read) x.2 in
            let us = (all_push_parts Used (older m.files) r (subst (AllByRecursion Used) b.split rep.sound.used)).1.some in
            let z = st o (older m.files) r (subst (λ (w : List FileRecord). Keeps d (p.files ∷ o.queues) (w ∷ o.lists)) b.split rep.files) (λ sp. alone (older m.files) r b.first (ended r) refl us (omega arith) (ap is_spent (sym rc) ∙ sp)) in
            does_by CloseLawful close_step k.width p d fs (Ok t) o m rep p' d' fs' a (subst (CloseLawfulAt fs a) (sym x.1) lw) u e
            (ap Ok (f.answer ∙ ap (λ (n : ℕ). told p.setup.partition n f.reply) nr))
            (z.1 ∙ ap (λ (w : FileRecord). swept gs w) rc ∙ ap (λ (w : Files). swept w (ended r)) (f.store ∙ ap (λ (n : ℕ). finish_after fs n f.reply) nr))
            (subst (λ (w : FileRecord). Keeps d' (p'.files ∷ o.queues) (listed (older m.files) w ∷ o.lists)) rc z.0)
            (shows_listed (older m.files) (ended r) p'.current rep.sound.order ec) none em q.0 q.1

  pub close_history : (p' : SpillPool P) (d' : Mem FileRecord) (fs' : Files) (r : Result (Option Fault) Refusal) → Closes k p d fs p' d' fs' r → Chronicles closes k p d fs p' d' fs' r
  close_history p' d' fs' r = chronicled k law CloseLawful close_step closes (λ s n h m gs hs run f a l. closing run f a l) p d fs p' d' fs' r

  abbrev any : Files → Pool → Replies → Type 0
  any gs m a = Unit {0}

  abbrev step : Setup → Facts → Pool → Files → Replies → Out (Result (Unit {0}) Refusal)
  step s f m gs a = remove_step f m gs

  pub removes_unfit : (p.places ≡ size d → ⊥) → Removes k p d fs p d fs (Err Lengths)
  unfolding remove_step
  removes_unfit n o m rep = stays_by any step k.width p d fs (Err Lengths) o m rep unasked tt unfit
    where
      unfit : remove_step (facts_of p d) m fs ≡ out (Err Lengths) m fs
      unfit = cond-true (not (facts_of p d).fit) _ _ (ap not (ne_eqb p.places (size d) n))

  pub removes_all : p.places ≡ size d → (p' : SpillPool P) (d' : Mem FileRecord) (fs' : Files) → p'.current ≡ None → p'.sinks ≡ p.sinks → p'.setup.maximum ≡ p.setup.maximum → Clears d p.files fs d' p'.files fs' → Removes k p d fs p' d' fs' (Ok tt)
  unfolding remove_step
  removes_all fit p' d' fs' ec es em cl o m rep =
      let z = cl o m.files rep.files in
      let u = out {A = Result (Unit {0}) Refusal} (Ok tt) (pool [] m.sinks) (removed fs m.files) in
      let q = subst (λ (v : Out (Result (Unit {0}) Refusal)). Sound k.width p.setup.maximum v.store v.next × Frame m.files fs v.next.files v.store) goes_all
      (let y = cleared k p.setup (facts_of p d) m fs rep.sound in (y.sound, y.frame)) in
      does_by any step k.width p d fs (Ok tt) o m rep p' d' fs' unasked tt u goes_all refl z.1 z.0 ec (es ∙ rep.sinks) em q.0 q.1
    where
      goes_all : remove_step (facts_of p d) m fs ≡ out (Ok tt) (pool [] m.sinks) (removed fs m.files)
      goes_all = cond-false (not (facts_of p d).fit) _ _ (ap not (eq-eqb p.places (size d) fit))

  pub remove-history : (p' : SpillPool P) (d' : Mem FileRecord) (fs' : Files) (r : Result (Unit {0}) Refusal) → Removes k p d fs p' d' fs' r → Chronicles removes k p d fs p' d' fs' r
  remove-history p' d' fs' r = chronicled k law any step removes (λ s n h m gs hs run f a l. removing run f) p d fs p' d' fs' r
