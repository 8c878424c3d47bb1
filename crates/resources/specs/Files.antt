-- What a store means: files by number, each open or finished, each an ordered list of batches as words.
-- Which answer comes is open: what a call leaves is a function of what was, the arguments and the answer, and a predicate says which
-- answers what was allows. Assumes nothing.
use Rattle.std.specs.Prelude.{◌≡◌, ℕ, ◌^◌, ◌<◌, Bool, true, false, if◌then◌else◌, ◌&&◌, List, [], ◌∷◌, ◌++◌, length, drop, is_some, Some, None, Ok, Err, Option, Result, nat_eq, nat_le, nat_lt}
use Rattle.std.specs.List.{slice_get}
use Rattle.std.specs.Option.{option_map}
use Rattle.resources.specs.declared.cause.Cause.{Cause}
use Rattle.resources.specs.declared.cause.Cause.TheVariants.{NoSpace, Misuse, Device}

-- a file: open or finished, and its batches in their order
pub record File : Type 0 where
  pub live : Bool
  pub batches : List (List ℕ)

-- the file of each number, if there is one
abbrev pub Files : Type 0
Files = ℕ → Option File

-- the file of one number becomes f, and no other changes
abbrev pub put : Files → ℕ → Option File → Files
put fs n f = λ q. if nat_eq q n then f else fs q

-- an open file without batches
abbrev pub fresh : File
fresh = record { live = true; batches = [] }

-- is there a file, and is it open?
abbrev pub live_at : Option File → Bool
live_at None = false
live_at (Some f) = f.live

-- the file with one more batch
abbrev pub extended : Option File → List ℕ → Option File
extended None ws = None
extended (Some f) ws = Some (record f { batches = f.batches ++ ws ∷ [] })

-- the file, finished
abbrev pub shut : Option File → Option File
shut None = None
shut (Some f) = Some (record f { live = false })

-- batch k, from 0
abbrev pub batch_at : Option File → ℕ → Option (List ℕ)
batch_at None k = None
batch_at (Some f) k = slice_get f.batches k

-- a batch has 1 to 64 words
abbrev pub length_ok : List ℕ → Bool
length_ok ws = nat_lt 0 (length ws) && nat_le (length ws) 64

-- may the batch be appended: is the file open, and has the batch a lawful length?
abbrev pub may_append : Files → ℕ → List ℕ → Bool
may_append fs n ws = live_at (fs n) && length_ok ws

-- which causes a call may fail with: no space only where it asks for space and is allowed, misuse only where it is not allowed, the device always
abbrev pub Fault : Bool → Bool → Cause → Type 0
Fault allowed space NoSpace = (allowed ≡ true) × (space ≡ true)
Fault allowed space Misuse = allowed ≡ false
Fault allowed space Device = Unit {0}

-- a new file has an unused 32-bit number above 0
abbrev pub CreateLawful : Files → Result ℕ Cause → Type 0
CreateLawful fs (Ok n) = (0 < n) × (n < 2 ^ 32) × (fs n ≡ None)
CreateLawful fs (Err c) = Fault true true c

abbrev pub create_after : Files → Result ℕ Cause → Files
create_after fs (Ok n) = put fs n (Some fresh)
create_after fs (Err c) = fs

abbrev pub AppendLawful : {U : Type 0} → Files → ℕ → List ℕ → Result U Cause → Type 0
AppendLawful fs n ws (Ok u) = may_append fs n ws ≡ true
AppendLawful fs n ws (Err c) = Fault (may_append fs n ws) true c

abbrev pub append_after : {U : Type 0} → Files → ℕ → List ℕ → Result U Cause → Files
append_after fs n ws (Ok u) = put fs n (extended (fs n) ws)
append_after fs n ws (Err c) = fs

abbrev pub FinishLawful : {U : Type 0} → Files → ℕ → Result U Cause → Type 0
FinishLawful fs n (Ok u) = live_at (fs n) ≡ true
FinishLawful fs n (Err c) = Fault (live_at (fs n)) false c

abbrev pub finish_after : {U : Type 0} → Files → ℕ → Result U Cause → Files
finish_after fs n (Ok u) = put fs n (shut (fs n))
finish_after fs n (Err c) = fs

-- a read tells the length of the batch
abbrev pub ReadLawful : Files → ℕ → ℕ → Result ℕ Cause → Type 0
ReadLawful fs n k (Ok l) = option_map length (batch_at (fs n) k) ≡ Some l
ReadLawful fs n k (Err c) = Fault (is_some (batch_at (fs n) k)) false c

-- the batch at the front of the place, whose rest stays
abbrev pub laid : Option (List ℕ) → List ℕ → List ℕ
laid None place = place
laid (Some ws) place = ws ++ drop (length ws) place

-- what a read leaves in the place
abbrev pub read_place : Files → ℕ → ℕ → List ℕ → Result ℕ Cause → List ℕ
read_place fs n k place (Ok l) = laid (batch_at (fs n) k) place
read_place fs n k place (Err c) = place

abbrev pub remove_after : Files → ℕ → Files
remove_after fs n = put fs n None

-- a call of a store
pub data Ask : Type 0 where
  create : Ask
  append : ℕ → List ℕ → Ask
  finish : ℕ → Ask
  read : ℕ → ℕ → Ask
  remove : ℕ → Ask

-- an answer: of create or read a number, of append or finish and of remove none
pub data Reply : Type 0 where
  number : ℕ → Reply
  done : Reply
  failed : Cause → Reply

abbrev pub numbered : Result ℕ Cause → Reply
numbered (Ok n) = number n
numbered (Err c) = failed c

abbrev pub finished : {U : Type 0} → Result U Cause → Reply
finished (Ok u) = done
finished (Err c) = failed c
