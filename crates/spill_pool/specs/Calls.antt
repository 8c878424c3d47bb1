-- What ties a pool, its file places and the store to their meaning, and what the calls promise. Assumes nothing.
use Rattle.std.specs.Prelude.{◌≡◌, ℕ, ◌^◌, ◌<◌, ◌≤◌, Bool, true, false, cond, ◌&&◌, ◌||◌, List, [], ◌∷◌, take, drop, is_ok, Some, None, Ok, Err, Option, Result, MatchResult, ◌==◌, nat_le, nat_lt}
use Rattle.refusal.specs.declared.Refusal.{Refusal}
use Rattle.refusal.specs.declared.Refusal.TheVariants.{Lengths, Range}
use Rattle.bank.specs.declared.Queue.{Queue}
use Rattle.bank.specs.Lists.{push, older}
use Rattle.bank.specs.Banks.{Mem, view, size, SameCells, freed, Keeps}
use Rattle.resources.specs.declared.cause.Cause.{Cause}
use Rattle.resources.specs.Files.{Files, CreateLawful, create_after, AppendLawful, append_after, FinishLawful, finish_after, remove_after}
use Rattle.spill_pool.specs.declared.fault.Fault.{Fault}
use Rattle.spill_pool.specs.declared.fault.StoreCall.{StoreCall}
use Rattle.spill_pool.specs.declared.fault.StoreCall.TheVariants.{Create, Append}
use Rattle.spill_pool.specs.declared.Disk.{Disk}
use Rattle.spill_pool.specs.declared.FileRecord.{FileRecord}
use Rattle.spill_pool.specs.declared.OpenFile.{OpenFile}
use Rattle.spill_pool.specs.declared.Push.{Push}
use Rattle.spill_pool.specs.declared.Push.TheVariants.{Skipped, Kept, Failed}
use Rattle.spill_pool.specs.declared.PoolPoll.{PoolPoll}
use Rattle.spill_pool.specs.declared.PoolPoll.TheVariants.{Batch as Given, Faulty, Wait, End}
use Rattle.spill_pool.specs.declared.SpillPool.{SpillPool}
use Rattle.spill_pool.specs.Faults.{store_fault}
use Rattle.spill_pool.specs.Meaning.{Setup, Pool, Batch, Kind, Replies, Facts, Frame, Sound, WriteLawful, NewLawful, PushLawful, PollLawful, CloseLawful, batch_of, is_spent, open_file, opened}
use Rattle.spill_pool.specs.Steps.{Out, write, settle, push_new, told, listed, ahead, swept, removed, push_step, poll_step, close_step, remove_step}
use Rattle.spill_pool.specs.Histories.{Event, Run, Laws}

-- queues of others in the file places, with what they hold
pub record Others : Type 0 where
  pub queues : List Queue
  pub lists : List (List FileRecord)

-- what a pool keeps of an open file, and the record that this makes, as if nothing was read
abbrev pub current_of : FileRecord → OpenFile
current_of r = record { number = r.number; written = r.written; sum = r.sum }

abbrev pub record_of : OpenFile → FileRecord
record_of c = record { number = c.number; written = c.written; read = 0; sum = c.sum; finished = false }

-- what it keeps of any file: nothing once it is finished
abbrev pub kept_of : FileRecord → Option OpenFile
kept_of r = cond r.finished None (Some (current_of r))

-- the record, with n batches read
abbrev pub with_read : FileRecord → ℕ → FileRecord
with_read r n = record { number = r.number; written = r.written; read = n; sum = r.sum; finished = r.finished }

-- what the pool keeps of its open file shows which file is open
abbrev pub Shows : Option OpenFile → Option FileRecord → Type 0
Shows c None = c ≡ None
Shows c (Some r) = c ≡ Some (current_of r)

abbrev pub parcel : ℕ → ℕ → List ℕ → Batch
parcel rows size words = record { rows = rows; size = size; words = words }

-- what a write answers
abbrev pub outcome : Result (Option Fault) Fault → Push
outcome (Ok t) = Kept t
outcome (Err e) = Failed e

-- the fault that a push tells, if it tells one
abbrev pub push_fault : Push → Option Fault
push_fault Skipped = None
push_fault (Kept t) = t
push_fault (Failed f) = Some f

-- an answer of the store, with its cause told as a fault of that call on that file
abbrev pub fault_or : {A : Type 0} → ℕ → StoreCall → ℕ → Result A Cause → Result A Fault
fault_or p call file (Ok x) = Ok x
fault_or p call file (Err c) = Err (store_fault p call file c)

-- a create, by some lawful answer of the store
pub record Creates (p : ℕ) (fs fs' : Files) (r : Result ℕ Fault) : Type 0 where
  pub reply : Result ℕ Cause
  pub lawful : CreateLawful fs reply
  pub answer : r ≡ fault_or p Create 0 reply
  pub store : fs' ≡ create_after fs reply

-- an append, by some lawful answer of the store
pub record Appends (p n : ℕ) (ws : List ℕ) (fs fs' : Files) (r : Result (Unit {0}) Fault) : Type 0 where
  pub reply : Result (Unit {0}) Cause
  pub lawful : AppendLawful fs n ws reply
  pub answer : r ≡ fault_or p Append n reply
  pub store : fs' ≡ append_after fs n ws reply

-- a finish, by some lawful answer of the store
pub record Finishes (p n : ℕ) (fs fs' : Files) (r : Option Fault) : Type 0 where
  pub reply : Result (Unit {0}) Cause
  pub lawful : FinishLawful fs n reply
  pub answer : r ≡ told p n reply
  pub store : fs' ≡ finish_after fs n reply

-- a write to the file c, which `create` made, by some lawful answers of the store
pub record WritesBy (s : Setup) (b : Batch) (create : Result ℕ Cause) (c : FileRecord) (fs : Files) (c' : FileRecord) (fs' : Files) (r : Result (Option Fault) Fault) : Type 0 where
  pub replies : Replies
  pub made : replies.create ≡ create
  pub lawful : WriteLawful fs c.number b.words replies
  pub answer : outcome r ≡ (write s c fs b replies).answer
  pub file : c' ≡ (write s c fs b replies).file
  pub store : fs' ≡ (write s c fs b replies).store

abbrev pub Writes : Setup → ℕ → List ℕ → FileRecord → Files → FileRecord → Files → Result (Option Fault) Fault → Type 0
Writes s size ws c fs c' fs' r = (rows : ℕ) (create : Result ℕ Cause) → c.finished ≡ false → c.written < 2 ^ 32 → c.sum < 2 ^ 41 → WritesBy s (parcel rows size ws) create c fs c' fs' r

-- a spent file is removed from the store
pub record Sweeps (y : FileRecord) (fs fs' : Files) (r : Bool) : Type 0 where
  pub answer : r ≡ is_spent y
  pub store : fs' ≡ swept fs y

-- the newest file's record becomes y, with as much of it read as before; a spent one goes, which is then the only one
abbrev pub Settles : FileRecord → Mem FileRecord → Queue → Files → Mem FileRecord → Queue → Files → Type 0
Settles y d q fs d' q' fs' = (o : Others) (before : List FileRecord) (r : FileRecord) →
    Keeps d (q ∷ o.queues) (push before r ∷ o.lists) → (is_spent (with_read y r.read) ≡ true → before ≡ []) →
    Keeps d' (q' ∷ o.queues) (listed before (with_read y r.read) ∷ o.lists) × (fs' ≡ swept fs (with_read y r.read))

-- the file y, just created and written to, stands behind the others, or is spent and goes
abbrev pub FilesAway : FileRecord → Mem FileRecord → Queue → Files → Mem FileRecord → Queue → Files → Type 0
FilesAway y d q fs d' q' fs' = (o : Others) (before : List FileRecord) →
    Keeps d (q ∷ o.queues) (before ∷ o.lists) → 0 < freed d →
    Keeps d' (q' ∷ o.queues) (listed before y ∷ o.lists) × (fs' ≡ swept fs y)

-- the oldest file's record becomes r; a spent one goes
abbrev pub Advances : FileRecord → Mem FileRecord → Queue → Files → Mem FileRecord → Queue → Files → Type 0
Advances r d q fs d' q' fs' = (o : Others) (x : FileRecord) (behind : List FileRecord) →
    Keeps d (q ∷ o.queues) ((x ∷ behind) ∷ o.lists) →
    Keeps d' (q' ∷ o.queues) (ahead r behind ∷ o.lists) × (fs' ≡ swept fs r)

-- the oldest file goes
abbrev pub RemovesOldest : Mem FileRecord → Queue → Files → Mem FileRecord → Queue → Files → Type 0
RemovesOldest d q fs d' q' fs' = (o : Others) (x : FileRecord) (behind : List FileRecord) →
    Keeps d (q ∷ o.queues) ((x ∷ behind) ∷ o.lists) →
    Keeps d' (q' ∷ o.queues) (behind ∷ o.lists) × (fs' ≡ remove_after fs x.number)

-- all files go
abbrev pub Clears : Mem FileRecord → Queue → Files → Mem FileRecord → Queue → Files → Type 0
Clears d q fs d' q' fs' = (o : Others) (rs : List FileRecord) → Keeps d (q ∷ o.queues) (rs ∷ o.lists) →
    Keeps d' (q' ∷ o.queues) ([] ∷ o.lists) × (fs' ≡ removed fs rs)

-- the i oldest files went
abbrev pub ClearsSome : ℕ → Mem FileRecord → Queue → Files → Mem FileRecord → Queue → Files → Type 0
ClearsSome i d q fs d' q' fs' = (o : Others) (rs : List FileRecord) → Keeps d (q ∷ o.queues) (rs ∷ o.lists) →
    Keeps d' (q' ∷ o.queues) (drop i rs ∷ o.lists) × (fs' ≡ removed fs (take i rs))

-- a push to a file, by some lawful answers of the store, up to the records and the record of the open file
pub record PushesBy (lawful : Replies → Type 0) (step : Replies → Out (Result Push Refusal)) (d' : Mem FileRecord) (q' : Queue) (c' : Option OpenFile) (fs' : Files) (r : Result (Option Fault) Fault) (o : Others) : Type 0 where
  pub replies : Replies
  pub lawfully : lawful replies
  pub answer : Ok (outcome r) ≡ (step replies).answer
  pub store : fs' ≡ (step replies).store
  pub files : Keeps d' (q' ∷ o.queues) ((step replies).next.files ∷ o.lists)
  pub current : Shows c' (open_file (step replies).next.files)

-- to the open file x
abbrev pub PushesOpen : Setup → ℕ → List ℕ → Mem FileRecord → Queue → OpenFile → Files → Mem FileRecord → Queue → Option OpenFile → Files → Result (Option Fault) Fault → Type 0
PushesOpen s size ws d q c fs d' q' c' fs' r = (w rows : ℕ) (o : Others) (m : Pool) (x : FileRecord) →
    Keeps d (q ∷ o.queues) (m.files ∷ o.lists) → Shows (Some c) (open_file m.files) → Sound w s.maximum fs m → s.maximum ≤ 2 ^ 40 → open_file m.files ≡ Some x →
    PushesBy (WriteLawful fs x.number ws) (λ a. settle (older m.files) m.sinks (write s x fs (parcel rows size ws) a)) d' q' c' fs' r o

-- to a new file, where none is open and a place is free
abbrev pub PushesNew : Setup → ℕ → List ℕ → Mem FileRecord → Queue → Option OpenFile → Files → Mem FileRecord → Queue → Option OpenFile → Files → Result (Option Fault) Fault → Type 0
PushesNew s size ws d q c fs d' q' c' fs' r = (w rows : ℕ) (o : Others) (m : Pool) →
    Keeps d (q ∷ o.queues) (m.files ∷ o.lists) → Shows c (open_file m.files) → Sound w s.maximum fs m → open_file m.files ≡ None → 0 < freed d →
    PushesBy (λ a. CreateLawful fs a.create × NewLawful fs ws a a.create) (λ a. push_new s m fs (parcel rows size ws) a a.create) d' q' c' fs' r o

-- why an opening is refused: the number of file places first, 1 to 1,024; then a maximum above 2^40, or other than 1 to 32 sinks
abbrev pub unopened : ℕ → ℕ → ℕ → Option Refusal
unopened places maximum sinks =
    cond (nat_le 1 places && nat_le places 1024)
    (cond (nat_lt (2 ^ 40) maximum || (nat_lt sinks 1 || nat_lt 32 sinks)) (Some Range) None)
    (Some Lengths)

module _ {P : Type 0} where
  -- what a call finds in the file places
  abbrev pub facts_of : SpillPool P → Mem FileRecord → Facts
  facts_of p d = record { fit = (p.places == size d); places = freed d }

  -- pool and file places mean m beside the store fs and the queues of others; batches have w words
  pub record Represents (w : ℕ) (p : SpillPool P) (d : Mem FileRecord) (fs : Files) (o : Others) (m : Pool) : Type 0 where
    pub files : Keeps d (p.files ∷ o.queues) (m.files ∷ o.lists)
    pub current : Shows p.current (open_file m.files)
    pub sinks : p.sinks ≡ m.sinks
    pub sound : Sound w p.setup.maximum fs m
    pub most : p.setup.maximum ≤ 2 ^ 40

  -- By some lawful answers of the store, answer, store and meaning are what the step gives, whatever else the file places hold; and what is no file of the
  -- pool stays as it was.
  pub record DoesBy {A : Type 0} (lawful : Files → Pool → Replies → Type 0) (step : Setup → Facts → Pool → Files → Replies → Out (Result A Refusal))
      (w : ℕ) (p : SpillPool P) (d : Mem FileRecord) (fs : Files) (p' : SpillPool P) (d' : Mem FileRecord) (fs' : Files) (r : Result A Refusal) (o : Others) (m : Pool) : Type 0 where
    pub replies : Replies
    pub lawfully : lawful fs m replies
    pub answer : r ≡ (step p.setup (facts_of p d) m fs replies).answer
    pub store : fs' ≡ (step p.setup (facts_of p d) m fs replies).store
    pub after : Represents w p' d' fs' o (step p.setup (facts_of p d) m fs replies).next
    pub frame : Frame m.files fs (step p.setup (facts_of p d) m fs replies).next.files fs'

  abbrev pub Does : {A : Type 0} → (Files → Pool → Replies → Type 0) → (Setup → Facts → Pool → Files → Replies → Out (Result A Refusal)) →
      ℕ → SpillPool P → Mem FileRecord → Files → SpillPool P → Mem FileRecord → Files → Result A Refusal → Type 0
  Does lawful step w p d fs p' d' fs' r = (o : Others) (m : Pool) → Represents w p d fs o m → DoesBy lawful step w p d fs p' d' fs' r o m

  -- The call with its answer makes every history that led here longer by one, and the laws hold of that.
  pub record Longer (k : Kind P) (s : Setup) (n : ℕ) (h : List (Event P)) (e : Event P) (p' : SpillPool P) (d' : Mem FileRecord) (fs' gs : Files) (o : Others) : Type 0 where
    pub meaning : Pool
    pub after : Represents k.width p' d' fs' o meaning
    pub run : Run k s n (e ∷ h) meaning fs' gs
    pub laws : Laws k s (e ∷ h) meaning fs' gs

  abbrev pub Chronicles : {A : Type 0} → (A → Event P) → Kind P → SpillPool P → Mem FileRecord → Files → SpillPool P → Mem FileRecord → Files → A → Type 0
  Chronicles call k p d fs p' d' fs' r = (n : ℕ) (h : List (Event P)) (gs : Files) (o : Others) (m : Pool) → Represents k.width p d fs o m → Run k p.setup n h m fs gs →
      Longer k p.setup n h (call r) p' d' fs' gs o

  -- the four calls
  abbrev pub Pushes : Kind P → P → SpillPool P → Mem FileRecord → Files → SpillPool P → Mem FileRecord → Files → Result Push Refusal → Type 0
  Pushes k x = Does (λ fs m a. PushLawful fs m (batch_of k x) a) (λ s f m fs a. push_step s f m fs (batch_of k x) a) k.width

  abbrev pub Polls : Kind P → SpillPool P → Mem FileRecord → Files → SpillPool P → Mem FileRecord → Files → Result (PoolPoll P) Refusal → Type 0
  Polls k = Does PollLawful (λ s f m fs a. poll_step s k.reading f m fs a) k.width

  abbrev pub Closes : Kind P → SpillPool P → Mem FileRecord → Files → SpillPool P → Mem FileRecord → Files → Result (Option Fault) Refusal → Type 0
  Closes k = Does CloseLawful close_step k.width

  abbrev pub Removes : Kind P → SpillPool P → Mem FileRecord → Files → SpillPool P → Mem FileRecord → Files → Result (Unit {0}) Refusal → Type 0
  Removes k = Does (λ _ _ _. Unit {0}) (λ s f m fs a. remove_step f m fs) k.width

  -- the fault that a poll tells, if it tells one
  abbrev pub poll_fault : PoolPoll P → Option Fault
  poll_fault (Given x) = None
  poll_fault (Faulty f) = Some f
  poll_fault Wait = None
  poll_fault End = None

  -- the oldest or the newest file
  abbrev pub Finds : (List FileRecord → Option FileRecord) → SpillPool P → Mem FileRecord → Option FileRecord → Type 0
  Finds which p d r = (w : ℕ) (fs : Files) (o : Others) (m : Pool) → Represents w p d fs o m → r ≡ which m.files

  -- What holds of each call, whatever the memory holds: a refused one leaves all as it was, a memory of another length is refused, and none changes the
  -- set-up or the memory's size.
  pub record Orderly {A S : Type 0} (p : SpillPool P) (d : Disk S) (p' : SpillPool P) (d' : Disk S) (r : Result A Refusal) : Type 0 where
    pub refused : is_ok r ≡ false → (p' ≡ p) × (view d'.places ≡ view d.places) × (d'.store ≡ d.store)
    pub unfit : (facts_of p (view d.places)).fit ≡ false → r ≡ Err Lengths
    pub setup : p'.setup ≡ p.setup
    pub places : p'.places ≡ p.places
    pub same : SameCells d.places d'.places

  -- a pool is opened over the file places, or the smallest reason why not is given
  abbrev pub Opens : ℕ → Mem FileRecord → ℕ → ℕ → ℕ → Result (SpillPool P) Refusal → Type 0
  Opens w d partition maximum sinks r = MatchResult r
      (λ p. (unopened (size d) maximum sinks ≡ None) × (p.setup ≡ record { partition = partition; maximum = maximum }) × ((facts_of p d).fit ≡ true)
      × ((o : Others) (fs : Files) → Keeps d o.queues o.lists → Represents w p d fs o (opened sinks)))
      (λ why. unopened (size d) maximum sinks ≡ Some why)
