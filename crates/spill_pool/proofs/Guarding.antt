-- The ways out of a write, each with what the guard leaves. Assumes nothing.
use Rattle.std.proofs.Common.{◌≡◌, ℕ, ◌+◌, ◌-◌, ◌^◌, ◌<◌, min, Bool, true, false, not, ◌||◌, ltb, leb, List, None, Ok, Err, Option, Result, sym, refl, ap, ◌∙◌, subst, arith}
use Rattle.std.proofs.lemmas.Bool.{cond-true, cond-false}
use Rattle.resources.specs.declared.cause.Cause.{Cause}
use Rattle.resources.specs.declared.cause.Cause.TheVariants.{Device}
use Rattle.resources.specs.Files.{Files, AppendLawful, append_after, FinishLawful, finish_after}
use Rattle.spill_pool.specs.declared.fault.Fault.{Fault}
use Rattle.spill_pool.specs.declared.fault.StoreCall.TheVariants.{Append}
use Rattle.spill_pool.specs.declared.FileRecord.{FileRecord}
use Rattle.spill_pool.specs.declared.Push.TheVariants.{Kept, Failed}
use Rattle.spill_pool.specs.Faults.{store_fault}
use Rattle.spill_pool.specs.Meaning.{Setup, Replies, is_full, grown, ended}
use Rattle.spill_pool.specs.Steps.{Written, told, write}
use Rattle.spill_pool.specs.Calls.{Appends, Finishes, WritesBy, Writes, fault_or, parcel}

-- what the store answered: a call that was not made counts as a failure of the device
abbrev pub replies : Result ℕ Cause → Result (Unit {0}) Cause → Result (Unit {0}) Cause → Replies
replies c p f = record { create = c; append = p; finish = f; read = Err Device }

-- the file as the guard leaves it
abbrev pub leave : FileRecord → ℕ → ℕ → Bool → FileRecord
leave c written sum back = record { number = c.number; written = written; read = c.read; sum = sum; finished = not back }

module _ (s : Setup) (size : ℕ) (ws : List ℕ) (c : FileRecord) (fs gs : Files) (q : Result (Unit {0}) Fault) (h : Appends s.partition c.number ws fs gs q) where
  module _ (e : Fault) (was : q ≡ Err e) (c' : FileRecord) (left : c' ≡ leave c c.written c.sum false) where
    failed_by : (rows : ℕ) (create : Result ℕ Cause) (y : Result (Unit {0}) Cause) → AppendLawful fs c.number ws y → q ≡ fault_or s.partition Append c.number y → gs ≡ append_after fs c.number ws y →
        WritesBy s (parcel rows size ws) create c fs c' gs (Err e)
    unfolding write
    failed_by rows create (Ok u) l a g = absurd (cc)
    failed_by rows create (Err x) l a g =
        let es : e ≡ store_fault s.partition Append c.number x = cc in
        record { replies = replies create (Err x) (Err Device); made = refl; lawful = (l, tt); answer = ap Failed es; file = left; store = g }

    pub writes_failed : Writes s size ws c fs c' gs (Err e)
    writes_failed rows create open' short light = failed_by rows create h.reply h.lawful h.answer h.store

  module _ (u : Unit {0}) (was : q ≡ Ok u) (written sum : ℕ) (ew : written ≡ min (c.written + 1) (2 ^ 64 - 1)) (es : sum ≡ min (c.sum + size) (2 ^ 64 - 1)) (small : size < 2 ^ 32) where
    -- the file is as it was, with one more batch
    module _ (short : c.written < 2 ^ 32) (light : c.sum < 2 ^ 41) where
      nw : written ≡ c.written + 1
      nw = omega arith

      ns : sum ≡ c.sum + size
      ns = omega arith

      full_is : (full : Bool) → full ≡ (ltb s.maximum sum || leb (2 ^ 32) written) → is_full s (grown c size) ≡ full
      full_is full e = ap (λ (x : ℕ). ltb s.maximum x || leb (2 ^ 32) (c.written + 1)) (sym ns) ∙ ap (λ (x : ℕ). ltb s.maximum sum || leb (2 ^ 32) x) (sym nw) ∙ sym e

    module _ (c' : FileRecord) (left : c' ≡ leave c written sum true) (none : (ltb s.maximum sum || leb (2 ^ 32) written) ≡ false) where
      kept_by : (rows : ℕ) (create : Result ℕ Cause) → c.finished ≡ false → c.written < 2 ^ 32 → c.sum < 2 ^ 41 → (y : Result (Unit {0}) Cause) → AppendLawful fs c.number ws y → q ≡ fault_or s.partition Append c.number y → gs ≡ append_after fs c.number ws y →
          WritesBy s (parcel rows size ws) create c fs c' gs (Ok None)
      unfolding write
      kept_by rows create open' short light (Ok v) l a g =
          let r = grown c size in
          let f = cond-false (is_full s r) (record { answer = Kept (told s.partition r.number (Err Device)); file = ended r; store = append_after fs c.number ws (Ok v) }) (record { answer = Kept None; file = r; store = append_after fs c.number ws (Ok v) })
          (full_is short light false (sym none)) in
          record {
            replies = replies create (Ok v) (Err Device);
            made = refl;
            lawful = (l, tt);
            answer = ap (λ (w : Written). w.answer) (sym f);
            file = left ∙ ap (λ (x : ℕ). leave c x sum true) (nw short light) ∙ ap (λ (x : ℕ). leave c (c.written + 1) x true) (ns short light)
                ∙ ap (λ (b : Bool). record { number = c.number; written = c.written + 1; read = c.read; sum = c.sum + size; finished = b }) (sym open') ∙ ap (λ (w : Written). w.file) (sym f);
            store = g ∙ ap (λ (w : Written). w.store) (sym f);
          }
      kept_by rows create open' short light (Err x) l a g = absurd (cc)

      pub writes_kept : Writes s size ws c fs c' gs (Ok None)
      writes_kept rows create open' short light = kept_by rows create open' short light h.reply h.lawful h.answer h.store

    module _ (c' : FileRecord) (left : c' ≡ leave c written sum false) (yes : (ltb s.maximum sum || leb (2 ^ 32) written) ≡ true) (hs : Files) (t : Option Fault) (k : Finishes s.partition c.number gs hs t) where
      full_by : (rows : ℕ) (create : Result ℕ Cause) → c.finished ≡ false → c.written < 2 ^ 32 → c.sum < 2 ^ 41 → (y : Result (Unit {0}) Cause) → AppendLawful fs c.number ws y → q ≡ fault_or s.partition Append c.number y → gs ≡ append_after fs c.number ws y →
          WritesBy s (parcel rows size ws) create c fs c' hs (Ok t)
      unfolding write
      full_by rows create open' short light (Ok v) l a g =
          let r = grown c size in
          let f = cond-true (is_full s r) (record { answer = Kept (told s.partition r.number k.reply); file = ended r; store = finish_after (append_after fs c.number ws (Ok v)) c.number k.reply }) (record { answer = Kept None; file = r; store = append_after fs c.number ws (Ok v) })
          (full_is short light true (sym yes)) in
          record {
            replies = replies create (Ok v) k.reply;
            made = refl;
            lawful = (l, subst (λ (u : Files). FinishLawful u c.number k.reply) g k.lawful);
            answer = ap Kept k.answer ∙ ap (λ (w : Written). w.answer) (sym f);
            file = left ∙ ap (λ (x : ℕ). leave c x sum false) (nw short light) ∙ ap (λ (x : ℕ). leave c (c.written + 1) x false) (ns short light) ∙ ap (λ (w : Written). w.file) (sym f);
            store = k.store ∙ ap (λ (u : Files). finish_after u c.number k.reply) g ∙ ap (λ (w : Written). w.store) (sym f);
          }
      full_by rows create open' short light (Err x) l a g = absurd (cc)

      pub writes_full : Writes s size ws c fs c' hs (Ok t)
      writes_full rows create open' short light = full_by rows create open' short light h.reply h.lawful h.answer h.store
