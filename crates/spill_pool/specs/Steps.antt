-- The four calls, each as a step on the pool's meaning and the store's, with the store's answers as an argument. Assumes nothing.
--
-- A step reads as the table of refusals does, the smallest number first, and then what the call does.
use Rattle.std.specs.Prelude.{ℕ, ◌-◌, cond, not, List, [], ◌∷◌, Some, None, Ok, Err, Option, Result, ◌==◌, nat_lt}
use Rattle.refusal.specs.declared.Refusal.{Refusal}
use Rattle.refusal.specs.declared.Refusal.TheVariants.{Lengths, Files as NoPlace, Closed as Shut}
use Rattle.bank.specs.Lists.{older, push}
use Rattle.resources.specs.declared.cause.Cause.{Cause}
use Rattle.resources.specs.Files.{Files, batch_at, create_after, append_after, finish_after, remove_after}
use Rattle.spill_pool.specs.declared.fault.Fault.{Fault}
use Rattle.spill_pool.specs.declared.fault.StoreCall.TheVariants.{Create, Append, Finish, Read}
use Rattle.spill_pool.specs.declared.FileRecord.{FileRecord}
use Rattle.spill_pool.specs.declared.Push.{Push}
use Rattle.spill_pool.specs.declared.Push.TheVariants.{Skipped, Kept, Failed}
use Rattle.spill_pool.specs.declared.PoolPoll.{PoolPoll}
use Rattle.spill_pool.specs.declared.PoolPoll.TheVariants.{Batch as Given, Faulty, Wait, End}
use Rattle.spill_pool.specs.Faults.{store_fault}
use Rattle.spill_pool.specs.Meaning.{Setup, Pool, Batch, Replies, Facts, new_file, grown, advanced, ended, is_full, is_spent, open_file}

-- what a call gives: its answer, the pool after it, and the store's files
pub record Out (A : Type 0) : Type 0 where
  pub answer : A
  pub next : Pool
  pub store : Files

abbrev pub out : {A : Type 0} → A → Pool → Files → Out A
out a m fs = record { answer = a; next = m; store = fs }

abbrev pub pool : List FileRecord → ℕ → Pool
pool rs n = record { files = rs; sinks = n }

-- the file behind the others, unless it is spent
abbrev pub listed : List FileRecord → FileRecord → List FileRecord
listed before r = cond (is_spent r) before (push before r)

-- the file before the others, unless it is spent
abbrev pub ahead : FileRecord → List FileRecord → List FileRecord
ahead r behind = cond (is_spent r) behind (r ∷ behind)

-- a spent file is removed from the store
abbrev pub swept : Files → FileRecord → Files
swept fs r = cond (is_spent r) (remove_after fs r.number) fs

-- a fault of finish, if there is one
abbrev pub told : ℕ → ℕ → Result (Unit {0}) Cause → Option Fault
told p n (Ok u) = None
told p n (Err c) = Some (store_fault p Finish n c)

-- what a write comes to: the answer, the file's record, and the store's files
pub record Written : Type 0 where
  pub answer : Push
  pub file : FileRecord
  pub store : Files

-- a file that has its batch is finished when it is full
abbrev pub rotate : Setup → FileRecord → Files → Result (Unit {0}) Cause → Written
rotate s r fs finish = cond (is_full s r)
    (record { answer = Kept (told s.partition r.number finish); file = ended r; store = finish_after fs r.number finish })
    (record { answer = Kept None; file = r; store = fs })

-- after a failed append the file is finished without a call, and the batch is not kept
abbrev pub write_by : Setup → FileRecord → Files → Batch → Replies → Result (Unit {0}) Cause → Written
write_by s r fs b a (Ok u) = rotate s (grown r b.size) (append_after fs r.number b.words (Ok u)) a.finish
write_by s r fs b a (Err c) = record { answer = Failed (store_fault s.partition Append r.number c); file = ended r; store = fs }

unfoldable pub write : Setup → FileRecord → Files → Batch → Replies → Written
write s r fs b a = write_by s r fs b a a.append

-- the file that was written to stands behind the others, or is spent and goes
abbrev pub settle : List FileRecord → ℕ → Written → Out (Result Push Refusal)
settle before n w = out (Ok w.answer) (pool (listed before w.file) n) (swept w.store w.file)

-- a failed create leaves no file
abbrev pub push_new : Setup → Pool → Files → Batch → Replies → Result ℕ Cause → Out (Result Push Refusal)
push_new s m fs b a (Ok n) = settle m.files m.sinks (write s (new_file n) (create_after fs (Ok n)) b a)
push_new s m fs b a (Err c) = out (Ok (Failed (store_fault s.partition Create 0 c))) m fs

abbrev pub push_to : Setup → Facts → Pool → Files → Batch → Replies → Option FileRecord → Out (Result Push Refusal)
push_to s f m fs b a (Some r) = settle (older m.files) m.sinks (write s r fs b a)
push_to s f m fs b a None = cond (f.places == 0) (out (Err NoPlace) m fs) (push_new s m fs b a a.create)

-- Push of a batch.
unfoldable pub push_step : Setup → Facts → Pool → Files → Batch → Replies → Out (Result Push Refusal)
push_step s f m fs b a =
    cond (not f.fit) (out (Err Lengths) m fs)
    (cond (m.sinks == 0) (out (Err Shut) m fs)
    (cond (b.rows == 0) (out (Ok Skipped) m fs)
    (push_to s f m fs b a (open_file m.files))))

-- Closing a sink. The last one finishes the open file, which is marked finished even on a fault.
abbrev pub close_last : Setup → Pool → Files → Replies → Option FileRecord → Out (Result (Option Fault) Refusal)
close_last s m fs a None = out (Ok None) (pool m.files 0) fs
close_last s m fs a (Some r) =
    out (Ok (told s.partition r.number a.finish)) (pool (listed (older m.files) (ended r)) 0) (swept (finish_after fs r.number a.finish) (ended r))

unfoldable pub close_step : Setup → Facts → Pool → Files → Replies → Out (Result (Option Fault) Refusal)
close_step s f m fs a =
    cond (not f.fit) (out (Err Lengths) m fs)
    (cond (m.sinks == 0) (out (Err Shut) m fs)
    (cond (m.sinks == 1) (close_last s m fs a (open_file m.files))
    (out (Ok None) (pool m.files (m.sinks - 1)) fs)))

-- the words, or none
abbrev pub words_or : Option (List ℕ) → List ℕ
words_or None = []
words_or (Some ws) = ws

module _ {P : Type 0} where
  -- nothing is unread: the end without sinks, else a wait
  abbrev pub rest : Pool → PoolPoll P
  rest m = cond (m.sinks == 0) End Wait

  -- a fault moves nothing
  abbrev pub read_by : Setup → (List ℕ → P) → Pool → Files → FileRecord → List FileRecord → Result ℕ Cause → Out (Result (PoolPoll P) Refusal)
  read_by s reading m fs r rs (Ok n) = out (Ok (Given (reading (words_or (batch_at (fs r.number) r.read))))) (pool (ahead (advanced r) rs) m.sinks) (swept fs (advanced r))
  read_by s reading m fs r rs (Err c) = out (Ok (Faulty (store_fault s.partition Read r.number c))) m fs

  abbrev pub poll_of : Setup → (List ℕ → P) → Pool → Files → Replies → List FileRecord → Out (Result (PoolPoll P) Refusal)
  poll_of s reading m fs a [] = out (Ok (rest m)) m fs
  poll_of s reading m fs a (r ∷ rs) = cond (nat_lt r.read r.written) (read_by s reading m fs r rs a.read) (out (Ok (rest m)) m fs)

  -- Poll: the next batch of the oldest file.
  unfoldable pub poll_step : Setup → (List ℕ → P) → Facts → Pool → Files → Replies → Out (Result (PoolPoll P) Refusal)
  poll_step s reading f m fs a = cond (not f.fit) (out (Err Lengths) m fs) (poll_of s reading m fs a m.files)

-- every file is removed from the store
abbrev pub removed : Files → List FileRecord → Files
removed fs [] = fs
removed fs (r ∷ rs) = removed (remove_after fs r.number) rs

-- Removing all files.
unfoldable pub remove_step : Facts → Pool → Files → Out (Result (Unit {0}) Refusal)
remove_step f m fs = cond (not f.fit) (out (Err Lengths) m fs) (out (Ok tt) (pool [] m.sinks) (removed fs m.files))
