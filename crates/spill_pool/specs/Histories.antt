-- Laws of histories: what holds after any list of pool calls since opening. Assumes nothing.
--
-- A history is the list of the calls so far, the newest first, each with its answer. The words below speak of the history alone.
use Rattle.std.specs.Prelude.{◌≡◌, ℕ, ◌<◌, Bool, true, false, List, [], ◌∷◌, ◌++◌, length, Ok, Err, Option, Result, ◌==◌}
use Rattle.std.specs.List.{AllByRecursion}
use Rattle.refusal.specs.declared.Refusal.{Refusal}
use Rattle.resources.specs.Files.{Files}
use Rattle.spill_pool.specs.declared.fault.Fault.{Fault}
use Rattle.spill_pool.specs.declared.FileRecord.{FileRecord}
use Rattle.spill_pool.specs.declared.Push.{Push}
use Rattle.spill_pool.specs.declared.Push.TheVariants.{Skipped, Kept, Failed}
use Rattle.spill_pool.specs.declared.PoolPoll.{PoolPoll}
use Rattle.spill_pool.specs.declared.PoolPoll.TheVariants.{Batch as Given, Faulty, Wait, End}
use Rattle.spill_pool.specs.Meaning.{Setup, Pool, Replies, Facts, Kind, batch_of, among, unread, opened, PushLawful, PollLawful, CloseLawful}
use Rattle.spill_pool.specs.Steps.{push_step, poll_step, close_step, remove_step}

-- one call, with its answer
pub data Event (P : Type 0) : Type 0 where
  pushes : P → Result Push Refusal → Event P
  polls : Result (PoolPoll P) Refusal → Event P
  closes : Result (Option Fault) Refusal → Event P
  removes : Result (Unit {0}) Refusal → Event P

-- Others change files of theirs. fs is the store, gs what others have in it: the files in the list rs are the pool's and stay.
pub record Elsewhere (rs : List FileRecord) (fs gs fs' gs' : Files) : Type 0 where
  pub ours : (n : ℕ) → among n rs ≡ true → (fs' n ≡ fs n) × (gs' n ≡ gs n)
  pub theirs : (n : ℕ) → among n rs ≡ false → fs' n ≡ gs' n

-- h is a history of a pool opened with n sinks, m is what it led to, fs the store, and gs what others have in it. With every lawful answer of
-- the store; and between the calls others may use the store and the file places for files of theirs.
pub data Run {P : Type 0} (k : Kind P) (s : Setup) (n : ℕ) : List (Event P) → Pool → Files → Files → Type 0 where
  opening : (fs : Files) → Run k s n [] (opened n) fs fs
  pushing : {h : List (Event P)} {m : Pool} {fs gs : Files} → Run k s n h m fs gs → (f : Facts) (x : P) (a : Replies) → PushLawful fs m (batch_of k x) a →
      Run k s n (pushes x (push_step s f m fs (batch_of k x) a).answer ∷ h) (push_step s f m fs (batch_of k x) a).next (push_step s f m fs (batch_of k x) a).store gs
  polling : {h : List (Event P)} {m : Pool} {fs gs : Files} → Run k s n h m fs gs → (f : Facts) (a : Replies) → PollLawful fs m a →
      Run k s n (polls (poll_step s k.reading f m fs a).answer ∷ h) (poll_step s k.reading f m fs a).next (poll_step s k.reading f m fs a).store gs
  closing : {h : List (Event P)} {m : Pool} {fs gs : Files} → Run k s n h m fs gs → (f : Facts) (a : Replies) → CloseLawful fs m a →
      Run k s n (closes (close_step s f m fs a).answer ∷ h) (close_step s f m fs a).next (close_step s f m fs a).store gs
  removing : {h : List (Event P)} {m : Pool} {fs gs : Files} → Run k s n h m fs gs → (f : Facts) →
      Run k s n (removes (remove_step f m fs).answer ∷ h) (remove_step f m fs).next (remove_step f m fs).store gs
  meanwhile : {h : List (Event P)} {m : Pool} {fs gs : Files} → Run k s n h m fs gs → (fs' gs' : Files) → Elsewhere m.files fs gs fs' gs' → Run k s n h m fs' gs'

module _ {P : Type 0} where
  -- a push kept its batch
  abbrev pub keeps : P → Result Push Refusal → List P
  keeps x (Ok Skipped) = []
  keeps x (Ok (Kept t)) = x ∷ []
  keeps x (Ok (Failed e)) = []
  keeps x (Err why) = []

  -- a poll gave a batch
  abbrev pub gives : Result (PoolPoll P) Refusal → List P
  gives (Ok (Given x)) = x ∷ []
  gives (Ok (Faulty e)) = []
  gives (Ok Wait) = []
  gives (Ok End) = []
  gives (Err why) = []

  -- a poll found nothing to read
  abbrev pub rests : Result (PoolPoll P) Refusal → Bool
  rests (Ok (Given x)) = false
  rests (Ok (Faulty e)) = false
  rests (Ok Wait) = true
  rests (Ok End) = true
  rests (Err why) = false

  -- what polls gave, in order
  abbrev pub given : List (Event P) → List P
  given [] = []
  given (pushes x r ∷ h) = given h
  given (polls r ∷ h) = given h ++ gives r
  given (closes r ∷ h) = given h
  given (removes r ∷ h) = given h

  -- the batches kept, in order; where all files are removed, those not given until then are kept no longer
  abbrev pub kept_unless : List P → List P → Result (Unit {0}) Refusal → List P
  kept_unless xs ys (Ok u) = ys
  kept_unless xs ys (Err why) = xs

  abbrev pub kept : List (Event P) → List P
  kept [] = []
  kept (pushes x r ∷ h) = kept h ++ keeps x r
  kept (polls r ∷ h) = kept h
  kept (closes r ∷ h) = kept h
  kept (removes r ∷ h) = kept_unless (kept h) (given h) r

-- What holds of a history h and of what it led to.
pub record Laws {P : Type 0} (k : Kind P) (s : Setup) (h : List (Event P)) (m : Pool) (fs gs : Files) : Type 0 where
  -- what polls gave, followed by what is unread in the files, is the kept batches, each once and in order
  pub delivery : given h ++ unread k.reading fs m.files ≡ kept h
  -- a poll finds nothing to read exactly when all kept batches were given
  pub waiting : (f : Facts) (a : Replies) → f.fit ≡ true → rests (poll_step s k.reading f m fs a).answer ≡ (length (given h) == length (kept h))
  -- what is not in the pool's list is as others left it: no file of the pool stays in the store outside its list
  pub listing : (n : ℕ) → among n m.files ≡ false → fs n ≡ gs n
  -- a file that is finished has something unread: no file stays once it is finished and read
  pub leaving : AllByRecursion (λ r. r.finished ≡ true → r.read < r.written) m.files
