-- Cells in a row are a chain of free cells. Assumes nothing.
use Rattle.std.proofs.Common.{◌≡◌, ℕ, zero, suc, ◌+◌, ◌-◌, ◌<◌, ◌≤◌, List, [], length, replicate, None, Option, sym, refl, ap, ◌∙◌, append-nil, arith}
use lib.ListN.{length-replicate}
use Rattle.bank.specs.declared.Cell.{Cell}
use Rattle.bank.specs.declared.Queue.{Queue}
use Rattle.bank.specs.Cells.{at, cell, empty}
use Rattle.bank.specs.Chains.{Node, Chain}
use Rattle.bank.specs.Banks.{mem, Keeps, Makes}
use Rattle.bank.proofs.Numbering.{keeps_empties}

module _ {T : Type 0} (cs : List (Cell T)) (row : (j : ℕ) → j < length cs → at cs j ≡ cell (j + 1) None) where
  node : (p i : ℕ) → p ≤ i → i < length cs → Node {T = T} (λ _. 0) (λ j. j) cs 0 p i None
  node p i l w = record { within = w; owner = refl; late = l; holds = ap (λ c. c.item) (row i w) }

  chain : (m p i t : ℕ) → p ≤ i → i + m ≡ length cs → t + 1 ≡ length cs → Chain {T = T} (λ _. 0) (λ j. j) cs 0 p i (replicate m None) t
  chain zero p i t l e f = tt
  chain (suc zero) p i t l e f = (node p i l (omega arith), omega arith)
  chain (suc (suc m)) p i t l e f =
      let w : i < length cs = omega arith in
      let to : (at cs i).next ≡ i + 1 = ap (λ c. c.next) (row i w) in
      (node p i l w, rw to (chain (suc m) (suc i) (i + 1) t (omega arith) (omega arith) f))

  whole : (n : ℕ) → length cs ≡ n → Chain {T = T} (λ _. 0) (λ j. j) cs 0 0 0 (replicate n None) (n - 1)
  whole zero e = tt
  whole (suc n) e = chain (suc n) 0 0 (suc n - 1) (omega arith) (omega arith) (omega arith)

  -- all cells are free, and there is no queue
  none : (f : Queue) → f ≡ record { head = 0; tail = length cs - 1; len = length cs } → Keeps (mem f cs) [] []
  unfolding Keeps
  none f e =
      let fs : List (Option T) = replicate f.len None in
      let el : f.len ≡ length cs = ap (λ (q : Queue). q.len) e in
      let lf = length-replicate {A = Option T} f.len None in
      record {
        own = λ _. 0;
        pos = λ j. j;
        each = λ j l.
            let z : j ≡ 0 = omega arith in
            rw z (sym lf, rw e (whole (length cs) refl));
        same = refl;
        count = omega arith;
      }

  pub cleared : (n : ℕ) (f : Queue) → length cs ≡ n → f ≡ record { head = 0; tail = length cs - 1; len = length cs } → Makes n (mem f cs)
  cleared n f e ef = (
    e,
    ap (λ (q : Queue). q.len) ef ∙ e,
    λ k. rw (append-nil (replicate k empty), append-nil (replicate {A = List T} k [])) at (keeps_empties k (mem f cs) [] [] (none f ef)),
  )
