-- What happened to a store, call by call, and what its reads gave. Assumes nothing.
use Rattle.std.specs.Prelude.{◌≡◌, ℕ, ◌-◌, ◌≤◌, min, if◌then◌else◌, List, [], ◌∷◌, ◌++◌, take, drop, replicate, Some, None, Ok, Err, Option, Result, ◌==◌, ◌≢◌}
use Rattle.std.specs.List.{slice_get}
use Rattle.resources.specs.declared.cause.Cause.{Cause}
use Rattle.resources.specs.declared.runs.Batch.{Batch}
use Rattle.resources.specs.declared.runs.Call.{Call}
use Rattle.resources.specs.declared.runs.Call.TheVariants.{Create, Append, Finish, Read, Remove}
use Rattle.resources.specs.declared.runs.Answer.{Answer}
use Rattle.resources.specs.declared.runs.Answer.TheVariants.{Number, Done, Words}
use Rattle.resources.specs.Files.{File, Files, put, fresh, extended, shut, batch_at, Ask, create, append, finish, read, remove, Reply, number, done, failed}

-- what a call did; a call that failed did nothing
pub data Event : Type 0 where
  created : ℕ → Event
  appended : ℕ → List ℕ → Event
  shutdown : ℕ → Event
  gave : ℕ → ℕ → List ℕ → Event
  removed : ℕ → Event
  nothing : Event

-- the words of a batch
abbrev pub words_of : Batch → List ℕ
words_of b = take (min b.length 64) b.words

-- what was read: 64 words at most, and zeros behind them
abbrev pub Fits : Answer → Type 0
Fits (Number n) = Unit {0}
Fits Done = Unit {0}
Fits (Words b) = (b.length ≤ 64) × (drop b.length b.words ≡ replicate (64 - b.length) 0)

-- what a call did, by its answer
abbrev pub event : Call → Result Answer Cause → Event
event Create (Ok (Number n)) = created n
event (Append n b) (Ok Done) = appended n (words_of b)
event (Finish n) (Ok Done) = shutdown n
event (Read n k) (Ok (Words b)) = gave n k (words_of b)
event (Remove n) r = removed n
event c r = nothing

-- the events of calls and their answers, the newest first
abbrev pub history : List Event → List Call → List (Result Answer Cause) → List Event
history h [] rs = h
history h (c ∷ cs) [] = h
history h (c ∷ cs) (r ∷ rs) = history (event c r ∷ h) cs rs

-- the batches of a file, if it is there
abbrev pub batches_of : Option File → List (List ℕ)
batches_of None = []
batches_of (Some f) = f.batches

abbrev pub held_by : Files → ℕ → List (List ℕ)
held_by fs n = batches_of (fs n)

-- the batches that the appends to a file gave since it was made or removed; before all, what it had
abbrev pub appends : (ℕ → List (List ℕ)) → List Event → ℕ → List (List ℕ)
appends old [] n = old n
appends old (created m ∷ h) n = if n == m then [] else appends old h n
appends old (appended m ws ∷ h) n = if n == m then appends old h n ++ ws ∷ [] else appends old h n
appends old (shutdown m ∷ h) n = appends old h n
appends old (gave m k ws ∷ h) n = appends old h n
appends old (removed m ∷ h) n = if n == m then [] else appends old h n
appends old (nothing ∷ h) n = appends old h n

-- every read gave what the append of that number in that file gave
abbrev pub Faithful : (ℕ → List (List ℕ)) → List Event → Type 0
Faithful old [] = Unit {0}
Faithful old (created m ∷ h) = Faithful old h
Faithful old (appended m ws ∷ h) = Faithful old h
Faithful old (shutdown m ∷ h) = Faithful old h
Faithful old (gave n k ws ∷ h) = (slice_get (appends old h n) k ≡ Some ws) × Faithful old h
Faithful old (removed m ∷ h) = Faithful old h
Faithful old (nothing ∷ h) = Faithful old h

-- what one event makes of the files
abbrev pub Happens : Files → Event → Files → Type 0
Happens fs (created n) gs = gs ≡ put fs n (Some fresh)
Happens fs (appended n ws) gs = (gs ≡ put fs n (extended (fs n) ws)) × (fs n ≢ None)
Happens fs (shutdown n) gs = gs ≡ put fs n (shut (fs n))
Happens fs (gave n k ws) gs = (batch_at (fs n) k ≡ Some ws) × (gs ≡ fs)
Happens fs (removed n) gs = gs ≡ put fs n None
Happens fs nothing gs = gs ≡ fs

-- what a call asks of the store
abbrev pub ask_of : Call → Ask
ask_of Create = create
ask_of (Append n b) = append n (words_of b)
ask_of (Finish n) = finish n
ask_of (Read n k) = read n k
ask_of (Remove n) = remove n

-- what the store replied, by the answer
abbrev pub reply_of : Result Answer Cause → Reply
reply_of (Ok (Number n)) = number n
reply_of (Ok Done) = done
reply_of (Ok (Words b)) = number b.length
reply_of (Err c) = failed c

-- one call of a store, by what its calls do: it was asked this, it replied that
abbrev pub Asked : {S : Type 0} → (S → Ask → Reply → S → Type 0) → S → Call → Result Answer Cause → S → Type 0
Asked steps s c r t = steps s (ask_of c) (reply_of r) t

-- calls with their answers, one after another, from one state of the store to another
pub data Ran {S : Type 0} (steps : S → Ask → Reply → S → Type 0) (s : S) : List Call → List (Result Answer Cause) → S → Type 0 where
  none : Ran steps s [] [] s
  more : {cs : List Call} {rs : List (Result Answer Cause)} {t : S} → Ran steps s cs rs t → (c : Call) (r : Result Answer Cause) (u : S) → Asked steps t c r u → Ran steps s (cs ++ c ∷ []) (rs ++ r ∷ []) u
