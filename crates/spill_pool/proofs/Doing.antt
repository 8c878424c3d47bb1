-- From a call's ways out to what it promises: the step, and the history that it makes longer. Assumes nothing.
use Rattle.std.proofs.Common.{◌≡◌, ℕ, ◌^◌, ◌≤◌, true, false, cond, not, eqb, List, [], ◌∷◌, ◌++◌, length, take, drop, Some, None, Ok, Err, Option, Result, sym, refl, ap, ◌∙◌, subst, arith}
use Rattle.std.proofs.lemmas.List.{take_at}
use Rattle.std.proofs.lemmas.Bool.{cond-true, cond-false, eq-eqb, ne_eqb}
use Rattle.refusal.specs.declared.Refusal.{Refusal}
use Rattle.refusal.specs.declared.Refusal.TheVariants.{Lengths, Files as NoPlace, Closed as Shut}
use Rattle.bank.specs.declared.Queue.{Queue}
use Rattle.bank.specs.Lists.{older}
use Rattle.bank.specs.Cells.{empty}
use Rattle.bank.proofs.Numbering.{keeps_front}
use Rattle.bank.specs.Banks.{Mem, Keeps, size, freed}
use Rattle.resources.specs.declared.cause.Cause.{Cause}
use Rattle.resources.specs.declared.cause.Cause.TheVariants.{Device}
use Rattle.resources.specs.Files.{Files}
use Rattle.spill_pool.specs.declared.fault.Fault.{Fault}
use Rattle.spill_pool.specs.declared.FileRecord.{FileRecord}
use Rattle.spill_pool.specs.declared.OpenFile.{OpenFile}
use Rattle.spill_pool.specs.declared.Push.{Push}
use Rattle.spill_pool.specs.declared.Push.TheVariants.{Skipped}
use Rattle.spill_pool.specs.declared.SpillPool.{SpillPool}
use Rattle.spill_pool.specs.Meaning.{Setup, Pool, Batch, Kind, Lawful, Replies, Facts, Frame, Sound, PushLawful, PushLawfulAt, PollLawfulAt, CloseLawfulAt, batch_of, open_file, opened}
use Rattle.spill_pool.specs.Steps.{Out, out, write, settle, push_new, push_to, push_step}
use Rattle.spill_pool.specs.Histories.{Event, Run, pushing, pushes}
use Rattle.spill_pool.specs.Calls.{Others, current_of, outcome, Shows, PushesBy, PushesOpen, PushesNew, facts_of, Represents, DoesBy, Does, Chronicles, Pushes}
use Rattle.spill_pool.proofs.Pushing.{pushed, frame_same}
use Rattle.spill_pool.proofs.LawsHold.{laws}

-- no call of the store was made
abbrev pub unasked : Replies
unasked = record { create = Err Device; append = Err Device; finish = Err Device; read = Err Device }

pub push_unasked : (fs : Files) (ws : List ℕ) (o : Option FileRecord) → PushLawfulAt fs ws unasked o
push_unasked fs ws None = (tt, tt)
push_unasked fs ws (Some r) = (tt, tt)

pub poll_unasked : (fs : Files) (rs : List FileRecord) → PollLawfulAt fs unasked rs
poll_unasked fs [] = tt
poll_unasked fs (r ∷ rs) = tt

pub close_unasked : (fs : Files) (o : Option FileRecord) → CloseLawfulAt fs unasked o
close_unasked fs None = tt
close_unasked fs (Some r) = tt

module _ {P A : Type 0} (lawful : Files → Pool → Replies → Type 0) (step : Setup → Facts → Pool → Files → Replies → Out (Result A Refusal)) (w : ℕ)
    (p : SpillPool P) (d : Mem FileRecord) (fs : Files) (r : Result A Refusal) (o : Others) (m : Pool) (rep : Represents w p d fs o m) where
  -- a call that comes to u
  pub does_by : (p' : SpillPool P) (d' : Mem FileRecord) (fs' : Files) (a : Replies) → lawful fs m a → (u : Out (Result A Refusal)) → step p.setup (facts_of p d) m fs a ≡ u →
      r ≡ u.answer → fs' ≡ u.store → Keeps d' (p'.files ∷ o.queues) (u.next.files ∷ o.lists) → Shows p'.current (open_file u.next.files) → p'.sinks ≡ u.next.sinks → p'.setup.maximum ≡ p.setup.maximum →
      Sound w p.setup.maximum u.store u.next → Frame m.files fs u.next.files u.store → DoesBy lawful step w p d fs p' d' fs' r o m
  does_by p' d' fs' a l u e ea es ks sh sk mx so fr = record {
    replies = a;
    lawfully = l;
    answer = ea ∙ ap (λ (v : Out (Result A Refusal)). v.answer) (sym e);
    store = es ∙ ap (λ (v : Out (Result A Refusal)). v.store) (sym e);
    after = subst (λ (v : Out (Result A Refusal)). Represents w p' d' fs' o v.next) (sym e) (record {
      files = ks;
      current = sh;
      sinks = sk;
      sound = subst (λ (k : ℕ). Sound w k fs' u.next) (sym mx) (subst (λ (gs : Files). Sound w p.setup.maximum gs u.next) (sym es) so);
      most = subst (λ (k : ℕ). k ≤ 2 ^ 40) (sym mx) rep.most;
    });
    frame = subst (λ (v : Out (Result A Refusal)). Frame m.files fs v.next.files fs') (sym e) (subst (Frame m.files fs u.next.files) (sym es) fr);
  }

  -- a call that changes nothing
  pub stays_by : (a : Replies) → lawful fs m a → step p.setup (facts_of p d) m fs a ≡ out r m fs → DoesBy lawful step w p d fs p d fs r o m
  stays_by a l e = does_by p d fs a l (out r m fs) e refl refl rep.files rep.current rep.sinks refl rep.sound (frame_same m.files fs)

-- a call that is its step makes a history longer by one
module _ {P A : Type 0} (k : Kind P) (law : Lawful k) (lawful : Files → Pool → Replies → Type 0) (step : Setup → Facts → Pool → Files → Replies → Out (Result A Refusal)) (call : Result A Refusal → Event P)
    (more : (s : Setup) (n : ℕ) (h : List (Event P)) (m : Pool) (fs gs : Files) → Run k s n h m fs gs → (f : Facts) (a : Replies) → lawful fs m a → Run k s n (call (step s f m fs a).answer ∷ h) (step s f m fs a).next (step s f m fs a).store gs)
    (p : SpillPool P) (d : Mem FileRecord) (fs : Files) (p' : SpillPool P) (d' : Mem FileRecord) (fs' : Files) (r : Result A Refusal) where
  pub chronicled : Does lawful step k.width p d fs p' d' fs' r → Chronicles call k p d fs p' d' fs' r
  chronicled does n h gs o m rep run =
      let b = does o m rep in
      let v = step p.setup (facts_of p d) m fs b.replies in
      let longer : Run k p.setup n (call r ∷ h) v.next fs' gs =
      subst (λ (u : Files). Run k p.setup n (call r ∷ h) v.next u gs) (sym b.store)
      (subst (λ (u : Result A Refusal). Run k p.setup n (call u ∷ h) v.next v.store gs) (sym b.answer) (more p.setup n h m fs gs run (facts_of p d) b.replies b.lawfully)) in
      record { meaning = v.next; after = b.after; run = longer; laws = laws k law p.setup rep.most n longer }

-- the ways of a push, as equations
module _ (s : Setup) (f : Facts) (m : Pool) (fs : Files) (b : Batch) (a : Replies) where
  pub push_unfit : f.fit ≡ false → push_step s f m fs b a ≡ out (Err Lengths) m fs
  unfolding push_step
  push_unfit e = cond-true (not f.fit) _ _ (ap not e)

  module _ (fit : f.fit ≡ true) where
    push_fit : push_step s f m fs b a ≡ cond (eqb m.sinks 0) (out (Err Shut) m fs) (cond (eqb b.rows 0) (out (Ok Skipped) m fs) (push_to s f m fs b a (open_file m.files)))
    unfolding push_step
    push_fit = cond-false (not f.fit) _ _ (ap not fit)

    pub push-shut : m.sinks ≡ 0 → push_step s f m fs b a ≡ out (Err Shut) m fs
    push-shut e = push_fit ∙ cond-true (eqb m.sinks 0) _ _ (eq-eqb m.sinks 0 e)

    module _ (some : m.sinks ≡ 0 → ⊥) where
      pub push_skips : b.rows ≡ 0 → push_step s f m fs b a ≡ out (Ok Skipped) m fs
      push_skips e = push_fit ∙ cond-false (eqb m.sinks 0) _ _ (ne_eqb m.sinks 0 some) ∙ cond-true (eqb b.rows 0) _ _ (eq-eqb b.rows 0 e)

      pub push_goes : (b.rows ≡ 0 → ⊥) → (o : Option FileRecord) → open_file m.files ≡ o → push_step s f m fs b a ≡ push_to s f m fs b a o
      push_goes e o q = push_fit ∙ cond-false (eqb m.sinks 0) _ _ (ne_eqb m.sinks 0 some) ∙ cond-false (eqb b.rows 0) _ _ (ne_eqb b.rows 0 e) ∙ ap (push_to s f m fs b a) q

      pub push_full : (b.rows ≡ 0 → ⊥) → open_file m.files ≡ None → f.places ≡ 0 → push_step s f m fs b a ≡ out (Err NoPlace) m fs
      push_full e q z = push_goes e None q ∙ cond-true (eqb f.places 0) _ _ (eq-eqb f.places 0 z)

      pub push_makes : (b.rows ≡ 0 → ⊥) → open_file m.files ≡ None → (f.places ≡ 0 → ⊥) → push_step s f m fs b a ≡ push_new s m fs b a a.create
      push_makes e q z = push_goes e None q ∙ cond-false (eqb f.places 0) _ _ (ne_eqb f.places 0 z)

-- which file is open, by what the pool keeps of it
pub shows_some : (c : Option OpenFile) (x : OpenFile) (o : Option FileRecord) → Shows c o → c ≡ Some x → (r : FileRecord) × (o ≡ Some r) × (x ≡ current_of r)
shows_some c x None e l = absurd (cc)
shows_some c x (Some r) e l = (r, refl, cc)

pub shows_none : (c : Option OpenFile) (rs : List FileRecord) → Shows c (open_file rs) → c ≡ None → open_file rs ≡ None
shows_none c rs sh l = by (open_file rs) refl sh
  where
    by : (o : Option FileRecord) → open_file rs ≡ o → Shows c o → open_file rs ≡ None
    by None e s = e
    by (Some r) e s = absurd (cc)

module _ {P : Type 0} {k : Kind P} (law : Lawful k) (x : P) (p : SpillPool P) (d : Mem FileRecord) (fs : Files) where
  abbrev b : Batch
  b = batch_of k x

  abbrev step : Setup → Facts → Pool → Files → Replies → Out (Result Push Refusal)
  step s f m gs a = push_step s f m gs b a

  abbrev lawful : Files → Pool → Replies → Type 0
  lawful gs m a = PushLawful gs m b a

  -- the ways on which nothing changes
  pub pushes_stay : (r : Result Push Refusal) → ((o : Others) (m : Pool) → Represents k.width p d fs o m → step p.setup (facts_of p d) m fs unasked ≡ out r m fs) → Pushes k x p d fs p d fs r
  pushes_stay r e o m rep = stays_by lawful step k.width p d fs r o m rep unasked (push_unasked fs (k.words x) (open_file m.files)) (e o m rep)

  -- the fit and the sinks
  module _ (fit : p.places ≡ size d) where
    is_fit : (facts_of p d).fit ≡ true
    is_fit = eq-eqb p.places (size d) fit

    pub pushes_shut : p.sinks ≡ 0 → Pushes k x p d fs p d fs (Err Shut)
    pushes_shut z = pushes_stay (Err Shut) (λ o m rep. push-shut p.setup (facts_of p d) m fs b unasked is_fit (sym rep.sinks ∙ z))

    module _ (some : p.sinks ≡ 0 → ⊥) where
      sinks_some : (o : Others) (m : Pool) → Represents k.width p d fs o m → m.sinks ≡ 0 → ⊥
      sinks_some o m rep z = some (rep.sinks ∙ z)

      pub pushes_skip : k.rows x ≡ 0 → Pushes k x p d fs p d fs (Ok Skipped)
      pushes_skip e = pushes_stay (Ok Skipped) (λ o m rep. push_skips p.setup (facts_of p d) m fs b unasked is_fit (sinks_some o m rep) e)

      module _ (rows : k.rows x ≡ 0 → ⊥) where
        pub pushes_full : p.current ≡ None → freed d ≡ 0 → Pushes k x p d fs p d fs (Err NoPlace)
        pushes_full l z = pushes_stay (Err NoPlace) (λ o m rep. push_full p.setup (facts_of p d) m fs b unasked is_fit (sinks_some o m rep) rows (shows_none p.current m.files rep.current l) z)

        -- to a file
        module _ (p' : SpillPool P) (d' : Mem FileRecord) (fs' : Files) (t : Result (Option Fault) Fault) (mx : p'.setup.maximum ≡ p.setup.maximum) (sk : p'.sinks ≡ p.sinks) where
          done_by : (o : Others) (m : Pool) (rep : Represents k.width p d fs o m) (go : Replies → Out (Result Push Refusal)) (lw : Replies → Type 0) →
              ((a : Replies) → step p.setup (facts_of p d) m fs a ≡ go a) → ((a : Replies) → lw a → PushLawful fs m b a) → ((a : Replies) → (go a).next.sinks ≡ m.sinks) →
              PushesBy lw go d' p'.files p'.current fs' t o → DoesBy lawful step k.width p d fs p' d' fs' (Ok (outcome t)) o m
          done_by o m rep go lw e ll es v =
              let a = v.replies in let l = ll a v.lawfully in
              let q = subst (λ (u : Out (Result Push Refusal)). Sound k.width p.setup.maximum u.store u.next × Frame m.files fs u.next.files u.store) (e a)
              (let z = pushed k law p.setup rep.most x (facts_of p d) m fs rep.sound a l in (z.sound, z.frame)) in
              does_by lawful step k.width p d fs (Ok (outcome t)) o m rep p' d' fs' a l (go a) (e a) v.answer v.store v.files v.current (sk ∙ rep.sinks ∙ sym (es a)) mx q.0 q.1

          to_open : (c : OpenFile) → p.current ≡ Some c → PushesOpen p.setup (k.size x) (k.words x) d p.files c fs d' p'.files p'.current fs' t → Pushes k x p d fs p' d' fs' (Ok (outcome t))
          to_open c l h o m rep =
              let s = shows_some p.current c (open_file m.files) rep.current l in
              done_by o m rep (λ a. settle (older m.files) m.sinks (write p.setup s.0 fs b a)) _
              (λ a. push_goes p.setup (facts_of p d) m fs b a is_fit (sinks_some o m rep) rows (Some s.0) s.1)
              (λ a lw. subst (PushLawfulAt fs (k.words x) a) (sym s.1) lw) (λ a. refl)
              (h k.width (k.rows x) o m s.0 rep.files (subst (λ (u : Option OpenFile). Shows u (open_file m.files)) l rep.current) rep.sound rep.most s.1)

          pub pushes_to_open : (n : ℕ) (ws : List ℕ) → n ≡ k.size x → ws ≡ k.words x → (c : OpenFile) → p.current ≡ Some c → PushesOpen p.setup n ws d p.files c fs d' p'.files p'.current fs' t → Pushes k x p d fs p' d' fs' (Ok (outcome t))
          pushes_to_open n ws en ew c l h =
              to_open c l
              (subst (λ (u : ℕ). PushesOpen p.setup u (k.words x) d p.files c fs d' p'.files p'.current fs' t) en
              (subst (λ (u : List ℕ). PushesOpen p.setup n u d p.files c fs d' p'.files p'.current fs' t) ew h))

          to_new : p.current ≡ None → (freed d ≡ 0 → ⊥) → PushesNew p.setup (k.size x) (k.words x) d p.files p.current fs d' p'.files p'.current fs' t → Pushes k x p d fs p' d' fs' (Ok (outcome t))
          to_new l z h o m rep =
              let s = shows_none p.current m.files rep.current l in
              done_by o m rep (λ a. push_new p.setup m fs b a a.create) _
              (λ a. push_makes p.setup (facts_of p d) m fs b a is_fit (sinks_some o m rep) rows s z)
              (λ a lw. subst (PushLawfulAt fs (k.words x) a) (sym s) lw) (λ a. new_sinks m a a.create)
              (h k.width (k.rows x) o m rep.files rep.current rep.sound s (omega arith))
            where
              new_sinks : (m : Pool) (a : Replies) (c : Result ℕ Cause) → (push_new p.setup m fs b a c).next.sinks ≡ m.sinks
              new_sinks m a (Ok n) = refl
              new_sinks m a (Err c) = refl

          pub pushes_to_new : (n : ℕ) (ws : List ℕ) → n ≡ k.size x → ws ≡ k.words x → p.current ≡ None → (freed d ≡ 0 → ⊥) → PushesNew p.setup n ws d p.files p.current fs d' p'.files p'.current fs' t → Pushes k x p d fs p' d' fs' (Ok (outcome t))
          pushes_to_new n ws en ew l z h =
              to_new l z
              (subst (λ (u : ℕ). PushesNew p.setup u (k.words x) d p.files p.current fs d' p'.files p'.current fs' t) en
              (subst (λ (u : List ℕ). PushesNew p.setup n u d p.files p.current fs d' p'.files p'.current fs' t) ew h))

  pub pushes_unfit : (p.places ≡ size d → ⊥) → Pushes k x p d fs p d fs (Err Lengths)
  pushes_unfit n = pushes_stay (Err Lengths) (λ o m rep. push_unfit p.setup (facts_of p d) m fs b unasked (ne_eqb p.places (size d) n))

  -- the history of a push
  pub push-history : (p' : SpillPool P) (d' : Mem FileRecord) (fs' : Files) (r : Result Push Refusal) → Pushes k x p d fs p' d' fs' r → Chronicles (pushes x) k p d fs p' d' fs' r
  push-history p' d' fs' r = chronicled k law lawful step (pushes x) (λ s n h m gs hs run f a l. pushing run f x a l) p d fs p' d' fs' r

-- the words of a value, written to the front of a place
pub front_words : (n w : ℕ) (ws old place : List ℕ) → place ≡ ws ++ drop w old → n ≡ w → length ws ≡ w → take n place ≡ ws
front_words n w ws old place e en el = ap (take n) e ∙ take_at ws (drop w old) n (omega arith)

-- a pool just opened
pub opens : {P : Type 0} (w : ℕ) (p : SpillPool P) (d : Mem FileRecord) → p.files ≡ empty → p.current ≡ None → p.setup.maximum ≤ 2 ^ 40 → (o : Others) (fs : Files) → Keeps d o.queues o.lists → Represents w p d fs o (opened p.sinks)
opens w p d ef el em o fs k = record {
  files = subst (λ (q : Queue). Keeps d (q ∷ o.queues) ([] ∷ o.lists)) (sym ef) (keeps_front d o.queues o.lists k);
  current = el;
  sinks = refl;
  sound = record { stored = tt; used = tt; fresh = tt; order = tt; apart = tt; idle = λ _. refl };
  most = em;
}
