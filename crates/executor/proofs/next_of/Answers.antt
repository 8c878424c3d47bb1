use Rattle.std.proofs.Common.{◌≡◌, ℕ, zero, suc, ◌+◌, ◌-◌, ◌≤◌, Bool, true, false, List, [], ◌∷◌, Option, Some, None, length, drop, refl, sym, ◌∙◌, ⊎_elim, arith, rules}
use Rattle.std.proofs.lemmas.List.{drop_all, take_all, length-drop}
use Rattle.std.proofs.lemmas.Iterator.{YieldsList-from_slice}
use Rattle.std.proofs.lemmas.Iterator.Consumers.{YieldsList-at, YieldsList-from_copied, YieldsList-from_enumerate}
use Rattle.std.proofs.lemmas.Iterator.Search.{find_from_yields_List}
use borrow.Author.Tests.{tests}
use Rattle.std.specs.Bool.{◌==◌}
use Rattle.std.specs.List.{find, enumerate_from, slice_range}
use Rattle.std.specs.Option.{option_map}
use Rattle.executor.specs.declared.Notice.{Notice}
use Rattle.executor.proofs.next_of.Goals as goal

-- what is left of a list from the place i on, as a slice
rest : (i : ℕ) (xs ys : List Notice) → ys ≡ slice_range xs i (length xs) → ys ≡ drop i xs
rest i xs ys e = let l = length-drop i xs in e ∙ take_all (length xs - i) (drop i xs) (omega arith)

dropped : (i k : ℕ) (xs : List Notice) → drop i (enumerate_from k xs) ≡ enumerate_from (k + i) (drop i xs)
dropped zero k xs = let e : k + 0 ≡ k = omega arith in rw e refl
dropped (suc i) k [] = refl
dropped (suc i) k (x ∷ xs) = let e : k + 1 + i ≡ k + suc i = omega arith in rw e at (dropped i (k + 1) xs)

module _ (p : Notice → Bool) where
  -- where the places count from a later on, the same notice is found, at a place so much later
  later : (a k : ℕ) (xs : List Notice) → find (λ x. p x.1) (enumerate_from (a + k) xs) ≡ option_map (λ u. (a + u.0, u.1)) (find (λ x. p x.1) (enumerate_from k xs))
  later a k [] = refl
  later a k (x ∷ xs) = by (p x) refl (later a (k + 1) xs)
    where
      by : (b : Bool) → p x ≡ b → find (λ u. p u.1) (enumerate_from (a + (k + 1)) xs) ≡ option_map (λ u. (a + u.0, u.1)) (find (λ u. p u.1) (enumerate_from (k + 1) xs)) →
          find (λ u. p u.1) (enumerate_from (a + k) (x ∷ xs)) ≡ option_map (λ u. (a + u.0, u.1)) (find (λ u. p u.1) (enumerate_from k (x ∷ xs)))
      by true t _ = rw t refl
      by false t h = let e : a + k + 1 ≡ a + (k + 1) = omega arith in rw (t, e) h

  -- so it will do to look through what is left from the place i on
  ahead : (i : ℕ) (xs ys : List Notice) → ys ≡ drop i xs → (r : Option (ℕ × Notice)) → r ≡ find (λ x. p x.1) (enumerate_from 0 ys) → option_map (λ u. (i + u.0, u.1)) r ≡ find (λ x. p x.1) (drop i (enumerate_from 0 xs))
  ahead i xs ys ey r er = let e : 0 + i ≡ i + 0 = omega arith in rw (er, ey, dropped i 0 xs, e) (sym (later i 0 (drop i xs)))

pub returns-in_err-ahead : goal.returns-in_err-ahead
returns-in_err-ahead c =
    let xs = c.args.notices.now in
    let past : length xs ≤ c.args.from = ⊎_elim (λ h. omega (arith, h)) (λ h. omega (arith, h)) c.in_err-ahead.ensures.lookup.0 in
    rw c.from_residual.ensures (ahead (λ n. n.feed == c.args.feed) c.args.from xs [] (sym (drop_all c.args.from xs past)) None refl)

pub returns-in_err-passed : goal.returns-in_err-passed
returns-in_err-passed c =
    let xs = c.args.notices.now in let ys = c.in_ok-ahead.ahead.now in
    let e = find_from_yields_List (λ x. x.1.feed == c.args.feed) _ _ c.find.result c.find.ensures.ran
    (YieldsList-from_enumerate (YieldsList-at c.enumerate.ensures.source (YieldsList-from_copied (YieldsList-at c.copied.ensures.source (YieldsList-from_slice ys (cc))))) c.enumerate.ensures.count)
    (λ x b q k. search (rules, tests)) in
    rw c.from_residual-in_err-passed.ensures (ahead (λ n. n.feed == c.args.feed) c.args.from xs ys (rest c.args.from xs ys c.in_ok-ahead.ensures.lookup.0.2) None (rw c.in_err-passed.was at e))

pub returns : goal.returns
returns c =
    let xs = c.args.notices.now in let ys = c.in_ok-ahead.ahead.now in let found = c.in_ok-passed in
    let e = find_from_yields_List (λ x. x.1.feed == c.args.feed) _ _ c.find.result c.find.ensures.ran
    (YieldsList-from_enumerate (YieldsList-at c.enumerate.ensures.source (YieldsList-from_copied (YieldsList-at c.copied.ensures.source (YieldsList-from_slice ys (cc))))) c.enumerate.ensures.count)
    (λ x b q k. search (rules, tests)) in
    ahead (λ n. n.feed == c.args.feed) c.args.from xs ys (rest c.args.from xs ys c.in_ok-ahead.ensures.lookup.0.2) (Some (found.passed, found.notice)) (rw found.was at e)
