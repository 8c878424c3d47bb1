-- What a pool means: its files, oldest first, beside the files of the store. Assumes nothing.
use Rattle.std.specs.Prelude.{◌≡◌, ℕ, ◌+◌, ◌^◌, ◌<◌, ◌≤◌, Bool, true, false, cond, ◌&&◌, ◌||◌, List, [], ◌∷◌, ◌++◌, map, length, drop, is_some, Some, None, Ok, Err, Option, Result, ◌==◌, nat_le, nat_lt}
use Rattle.std.specs.List.{AllByRecursion}
use Rattle.bank.specs.Lists.{newest, older, rest}
use Rattle.resources.specs.declared.cause.Cause.{Cause}
use Rattle.resources.specs.declared.payload.Payload.{Ghosts}
use Rattle.resources.specs.Files.{File, Files, live_at, CreateLawful, create_after, AppendLawful, append_after, FinishLawful, ReadLawful}
use Rattle.resources.specs.History.{batches_of}
use Rattle.spill_pool.specs.declared.FileRecord.{FileRecord}
pub use Rattle.spill_pool.specs.declared.Setup.{Setup}

-- a pool: its files, oldest first, and how many sinks are open
pub record Pool : Type 0 where
  pub files : List FileRecord
  pub sinks : ℕ

-- a batch as a pool sees it
pub record Batch : Type 0 where
  pub rows : ℕ
  pub size : ℕ
  pub words : List ℕ

-- what values of a payload type mean
pub record Kind (P : Type 0) : Type 0 where
  pub width : ℕ
  pub rows : P → ℕ
  pub size : P → ℕ
  pub words : P → List ℕ
  pub reading : List ℕ → P

-- of the type P with these ghost members of a payload
abbrev pub kind_of : {P : Type 0} → Ghosts P → Kind P
kind_of g = record { width = g.WORDS; rows = g.rows_of; size = g.size_of; words = g.words; reading = g.reading }

-- the words of a value, 1 to 64 of them, read back as that value; sizes have 32 bits
pub record Lawful {P : Type 0} (k : Kind P) : Type 0 where
  pub narrow : (1 ≤ k.width) × (k.width ≤ 64)
  pub long : (x : P) → length (k.words x) ≡ k.width
  pub back : (x : P) → k.reading (k.words x) ≡ x
  pub small : (x : P) → k.size x < 2 ^ 32

abbrev pub batch_of : {P : Type 0} → Kind P → P → Batch
batch_of k x = record { rows = k.rows x; size = k.size x; words = k.words x }

-- What the store answers within one call of a pool, which makes at most one call of each kind.
pub record Replies : Type 0 where
  pub create : Result ℕ Cause
  pub append : Result (Unit {0}) Cause
  pub finish : Result (Unit {0}) Cause
  pub read : Result ℕ Cause

-- what a call finds in the file places: is their length right, and how many are free
pub record Facts : Type 0 where
  pub fit : Bool
  pub places : ℕ

-- a file just created
abbrev pub new_file : ℕ → FileRecord
new_file n = record { number = n; written = 0; read = 0; sum = 0; finished = false }

-- one more batch is written
abbrev pub grown : FileRecord → ℕ → FileRecord
grown r size = record { number = r.number; written = r.written + 1; read = r.read; sum = r.sum + size; finished = r.finished }

-- one more batch is read
abbrev pub advanced : FileRecord → FileRecord
advanced r = record { number = r.number; written = r.written; read = r.read + 1; sum = r.sum; finished = r.finished }

abbrev pub ended : FileRecord → FileRecord
ended r = record { number = r.number; written = r.written; read = r.read; sum = r.sum; finished = true }

-- the file is due to be finished: its size sum is above the maximum, or it has 2^32 batches
abbrev pub is_full : Setup → FileRecord → Bool
is_full s r = nat_lt s.maximum r.sum || nat_le (2 ^ 32) r.written

-- the file is finished, and nothing in it is unread
abbrev pub is_spent : FileRecord → Bool
is_spent r = r.finished && r.read == r.written

abbrev pub unfinished : Option FileRecord → Option FileRecord
unfinished None = None
unfinished (Some r) = cond r.finished None (Some r)

-- the open file: the newest, if it is not finished
abbrev pub open_file : List FileRecord → Option FileRecord
open_file rs = unfinished (newest rs)

-- is the file of that number among these?
abbrev pub among : ℕ → List FileRecord → Bool
among n [] = false
among n (r ∷ rs) = r.number == n || among n rs

-- the batches of a file that are not read yet, as words
abbrev pub left : Option File → FileRecord → List (List ℕ)
left f r = drop r.read (batches_of f)

-- what is unread in the files, oldest first
abbrev pub unread : {P : Type 0} → (List ℕ → P) → Files → List FileRecord → List P
unread reading fs [] = []
unread reading fs (r ∷ rs) = map reading (left (fs r.number) r) ++ unread reading fs rs

-- no two files have one number
abbrev pub Apart : List FileRecord → Type 0
Apart [] = Unit {0}
Apart (r ∷ rs) = (among r.number rs ≡ false) × Apart rs

-- A file, with batches of w words each, stands in the store as its record says; while it is not finished, it is open in the store, and
-- neither too large nor too long.
pub record Stored (w maximum : ℕ) (f : Option File) (r : FileRecord) : Type 0 where
  pub there : is_some f ≡ true
  pub written : length (batches_of f) ≡ r.written
  pub wide : AllByRecursion (λ ws. length ws ≡ w) (batches_of f)
  pub read : r.read ≤ r.written
  pub most : r.written ≤ 2 ^ 32
  pub sum : r.sum < 2 ^ 41
  pub live : r.finished ≡ false → live_at f ≡ true
  pub short : r.finished ≡ false → r.written < 2 ^ 32
  pub light : r.finished ≡ false → r.sum ≤ maximum

-- a file in the list has a batch, and an unread one if it is finished
pub record Used (r : FileRecord) : Type 0 where
  pub some : 0 < r.written
  pub over : r.finished ≡ true → r.read < r.written

-- Every file of the pool is stored and used; only the oldest was read from, and only the newest may be open; no two have one number;
-- and without sinks none is open.
pub record Sound (w maximum : ℕ) (fs : Files) (m : Pool) : Type 0 where
  pub stored : AllByRecursion (λ r. Stored w maximum (fs r.number) r) m.files
  pub used : AllByRecursion Used m.files
  pub fresh : AllByRecursion (λ r. r.read ≡ 0) (rest m.files)
  pub order : AllByRecursion (λ r. r.finished ≡ true) (older m.files)
  pub apart : Apart m.files
  pub idle : m.sinks ≡ 0 → open_file m.files ≡ None

-- What a call leaves alone. rs are the pool's files before it, and rs' after it: whatever is no file of the pool stays as it was, a file that
-- leaves the list is gone from the store, and a number that is new in the list was unused.
pub record Frame (rs : List FileRecord) (fs : Files) (rs' : List FileRecord) (fs' : Files) : Type 0 where
  pub others : (n : ℕ) → among n rs ≡ false → among n rs' ≡ false → fs' n ≡ fs n
  pub gone : (n : ℕ) → among n rs ≡ true → among n rs' ≡ false → fs' n ≡ None
  pub new : (n : ℕ) → among n rs ≡ false → among n rs' ≡ true → fs n ≡ None

-- a pool just opened
abbrev pub opened : ℕ → Pool
opened n = record { files = []; sinks = n }

-- Which answers of the store are lawful within a call, each by the files as that call finds them; of a call that is not made, a failure of
-- the device is.
abbrev pub WriteLawful : Files → ℕ → List ℕ → Replies → Type 0
WriteLawful fs n ws a = AppendLawful fs n ws a.append × FinishLawful (append_after fs n ws a.append) n a.finish

abbrev pub NewLawful : Files → List ℕ → Replies → Result ℕ Cause → Type 0
NewLawful fs ws a (Ok n) = WriteLawful (create_after fs (Ok n)) n ws a
NewLawful fs ws a (Err c) = Unit {0}

abbrev pub PushLawfulAt : Files → List ℕ → Replies → Option FileRecord → Type 0
PushLawfulAt fs ws a (Some r) = WriteLawful fs r.number ws a
PushLawfulAt fs ws a None = CreateLawful fs a.create × NewLawful fs ws a a.create

abbrev pub PushLawful : Files → Pool → Batch → Replies → Type 0
PushLawful fs m b a = PushLawfulAt fs b.words a (open_file m.files)

abbrev pub PollLawfulAt : Files → Replies → List FileRecord → Type 0
PollLawfulAt fs a [] = Unit {0}
PollLawfulAt fs a (r ∷ rs) = ReadLawful fs r.number r.read a.read

abbrev pub PollLawful : Files → Pool → Replies → Type 0
PollLawful fs m a = PollLawfulAt fs a m.files

abbrev pub CloseLawfulAt : Files → Replies → Option FileRecord → Type 0
CloseLawfulAt fs a None = Unit {0}
CloseLawfulAt fs a (Some r) = FinishLawful fs r.number a.finish

abbrev pub CloseLawful : Files → Pool → Replies → Type 0
CloseLawful fs m a = CloseLawfulAt fs a (open_file m.files)
