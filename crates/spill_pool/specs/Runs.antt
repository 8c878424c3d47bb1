-- Worked runs over the steps, in a pool with one sink and the maximum 100. Assumes nothing.
use Rattle.std.specs.Prelude.{◌≡◌, ℕ, Bool, true, false, List, [], ◌∷◌, map, None, Ok, Err, Result, slice_index}
use Rattle.refusal.specs.declared.Refusal.{Refusal}
use Rattle.resources.specs.declared.cause.Cause.{Cause}
use Rattle.resources.specs.declared.cause.Cause.TheVariants.{Device}
use Rattle.resources.specs.Files.{Files}
use Rattle.spill_pool.specs.declared.fault.StoreCall.TheVariants.{Append}
use Rattle.spill_pool.specs.declared.Push.{Push}
use Rattle.spill_pool.specs.declared.Push.TheVariants.{Kept, Failed}
use Rattle.spill_pool.specs.declared.PoolPoll.{PoolPoll}
use Rattle.spill_pool.specs.declared.PoolPoll.TheVariants.{Batch as Given, Wait}
use Rattle.spill_pool.specs.Faults.{store_fault}
use Rattle.spill_pool.specs.Meaning.{Setup, Pool, Replies, Facts, opened}
use Rattle.spill_pool.specs.Steps.{Out, push_step, poll_step}

abbrev pub setup : Setup
setup = record { partition = 0; maximum = 100 }

-- file places enough
abbrev pub facts : Facts
facts = record { fit = true; places = 8 }

-- a store without files
abbrev pub bare : Files
bare = λ n. None

-- a new file has the number n, an append answers p, and every other call succeeds
abbrev pub answering : ℕ → Result (Unit {0}) Cause → Replies
answering n p = record { create = Ok n; append = p; finish = Ok tt; read = Ok 1 }

-- a batch of one word
abbrev pub pushed : Pool → Files → ℕ → ℕ → Replies → Out (Result Push Refusal)
pushed m fs size word a = push_step setup facts m fs (record { rows = 1; size = size; words = word ∷ [] }) a

-- the word of the next batch
abbrev pub polled : Pool → Files → Out (Result (PoolPoll ℕ) Refusal)
polled m fs = poll_step setup (λ ws. slice_index ws 0) facts m fs (answering 0 (Ok tt))

-- which files are finished
abbrev pub finished : Pool → List Bool
finished m = map (λ r. r.finished) m.files

-- Pushes of 100 and of 1 leave the file open, then finished.
abbrev pub Rotation : Type 0
Rotation = (a b : ℕ) →
    let x = pushed (opened 1) bare 100 a (answering 7 (Ok tt)) in
    let y = pushed x.next x.store 1 b (answering 8 (Ok tt)) in
    (x.answer ≡ Ok (Kept None)) × (finished x.next ≡ false ∷ []) × (y.answer ≡ Ok (Kept None)) × (finished y.next ≡ true ∷ [])

-- Pushes A, B, C of size 10, B's append failing: the reader gets A, C, then a wait.
abbrev pub FailedAppend : Type 0
FailedAppend = (a b c : ℕ) →
    let x = pushed (opened 1) bare 10 a (answering 7 (Ok tt)) in
    let y = pushed x.next x.store 10 b (answering 8 (Err Device)) in
    let z = pushed y.next y.store 10 c (answering 9 (Ok tt)) in
    let u = polled z.next z.store in
    let v = polled u.next u.store in
    let w = polled v.next v.store in
    (x.answer ≡ Ok (Kept None)) × (y.answer ≡ Ok (Failed (store_fault 0 Append 7 Device))) × (z.answer ≡ Ok (Kept None))
    × (u.answer ≡ Ok (Given a)) × (v.answer ≡ Ok (Given c)) × (w.answer ≡ Ok Wait)

-- the worked runs as one list
pub record Runs : Type 0 where
  pub rotation : Rotation
  pub failed_append : FailedAppend
