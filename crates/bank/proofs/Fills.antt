-- Another item in the first or the last cell of a chain. Assumes nothing.
use Rattle.std.proofs.Common.{◌≡◌, ℕ, suc, ◌<◌, ◌≤◌, ◌≢◌, List, [], ◌∷◌, ◌++◌, length, get_or, set, Option, sym, refl, ap, ◌∙◌, subst, ⊎_elim, arith, length-append, length-set}
use Rattle.std.proofs.lemmas.List.{get_or-set_same, get_or-set_other}
use Rattle.std.proofs.lemmas.Bool.{cases_eq}
use Rattle.bank.specs.declared.Cell.{Cell}
use Rattle.bank.specs.declared.Queue.{Queue}
use Rattle.bank.specs.Lists.{list}
use Rattle.bank.specs.Cells.{at, cell, empty, filled}
use Rattle.bank.specs.Chains.{Node, Chain, Holds, Chains}
use Rattle.bank.specs.Banks.{Is}
use Rattle.bank.proofs.Frames.{first_node, not_last, node_same, frame}
use Rattle.bank.proofs.Links.{total-set, holds_at}

module _ {T : Type 0} (own pos : ℕ → ℕ) (cs : List (Cell T)) (i : ℕ) (x : Option T) (il : i < length cs) where
  long : length (filled cs i x) ≡ length cs
  long = simp length-set

  at_other : (j : ℕ) → j ≢ i → at (filled cs i x) j ≡ at cs j
  at_other j n = get_or-set_other cs i j _ _ n

  at_here : at (filled cs i x) i ≡ cell (at cs i).next x
  at_here = get_or-set_same cs i _ _ il

  -- the cell i itself
  refilled : (k p : ℕ) (y : Option T) → Node own pos cs k p i y → Node own pos (filled cs i x) k p i x
  refilled k p y n = record { within = rw long il; owner = n.owner; late = n.late; holds = ap (λ c. c.item) at_here }

  -- a chain that has not the cell i, from the place p on
  apart : (k p : ℕ) → ((j : ℕ) → own j ≡ k → p ≤ pos j → j ≢ i) → (h : ℕ) (zs : List (Option T)) (t : ℕ) → Chain own pos cs k p h zs t → Chain own pos (filled cs i x) k p h zs t
  apart k p out = frame own pos cs k own pos (filled cs i x) long p (λ j o l. (at_other j (out j o l), refl, refl))

  first_filled : (k p : ℕ) (y : Option T) (ys : List (Option T)) (t : ℕ) → Chain own pos cs k p i (y ∷ ys) t → Chain own pos (filled cs i x) k p i (x ∷ ys) t
  first_filled k p y [] t (n, e) = (refilled k p y n, e)
  first_filled k p y (z ∷ zs) t (n, r) =
      let next : (at (filled cs i x) i).next ≡ (at cs i).next = ap (λ c. c.next) at_here in
      (refilled k p y n, rw next (apart k (suc (pos i)) (λ j o l e. let f : suc (pos i) ≤ pos i = subst (λ (u : ℕ). suc (pos i) ≤ pos u) e l in omega arith) (at cs i).next (z ∷ zs) t r))

  last_filled : (k p h : ℕ) (y : Option T) (ys : List (Option T)) → Chain own pos cs k p h (ys ++ y ∷ []) i → Chain own pos (filled cs i x) k p h (ys ++ x ∷ []) i
  last_filled k p h y [] (n, e) = (rw e (refilled k p y (rw e at n)), e)
  last_filled k p h y (z ∷ []) (n, r) =
      let ne = not_last own pos cs k (at cs h).next h y [] i r in
      (node_same own pos cs k own pos (filled cs i x) long (ap (λ c. c.item) (at_other h ne)) refl refl n, rw (at_other h ne) (last_filled k (suc (pos h)) (at cs h).next y [] r))
  last_filled k p h y (z ∷ (w ∷ ws)) (n, r) =
      let ne = not_last own pos cs k (at cs h).next h w (ws ++ y ∷ []) i r in
      (node_same own pos cs k own pos (filled cs i x) long (ap (λ c. c.item) (at_other h ne)) refl refl n, rw (at_other h ne) (last_filled k (suc (pos h)) (at cs h).next y (w ∷ ws) r))

module _ {T : Type 0} (own pos : ℕ → ℕ) (cs : List (Cell T)) (k : ℕ) where
  -- the last cell holds the last item
  pub last_holds : (p i : ℕ) (y : Option T) (ys : List (Option T)) (t : ℕ) → Chain own pos cs k p i (ys ++ y ∷ []) t → (own t ≡ k) × (t < length cs) × ((at cs t).item ≡ y)
  last_holds p i y [] t (n, e) = (rw (← e) n.owner, rw (← e) n.within, rw (← e) n.holds)
  last_holds p i y (z ∷ []) t (n, r) = last_holds (suc (pos i)) (at cs i).next y [] t r
  last_holds p i y (z ∷ (w ∷ ws)) t (n, r) = last_holds (suc (pos i)) (at cs i).next y (w ∷ ws) t r

module _ {T : Type 0} (cs : List (Cell T)) (ps : List Queue) (yss : List (List (Option T))) (c : Chains cs ps yss) (k : ℕ) (q : Queue) (ik : Is ps k q) where
  -- the chain k has changed in its cell i alone
  chains_filled : (i : ℕ) (x : Option T) (zs : List (Option T)) → i < length cs → c.own i ≡ k → length zs ≡ length (list yss k) → Holds c.own c.pos (filled cs i x) k q zs →
      Chains (filled cs i x) ps (set yss k zs)
  chains_filled i x zs il oi ln here =
      let lk : k < length yss = let h = ik.0 in let s = c.same in omega arith in
      let t = total-set yss k zs lk in let n = c.count in let lf = long c.own c.pos cs i x il in
      record {
        own = c.own;
        pos = c.pos;
        each = λ j h.
            ⊎_elim
            (λ (e : j ≡ k). rw (e, ik.1, get_or-set_same yss k zs [] lk) here)
            (λ (nk : j ≢ k).
            let w = c.each j h in
            rw (get_or-set_other yss k j zs [] nk)
            (w.0, apart c.own c.pos cs i x il j 0 (λ u o l e. nk (sym o ∙ ap c.own e ∙ oi)) (get_or ps j empty).head (list yss j) (get_or ps j empty).tail w.1))
            (cases_eq j k);
        same = simp length-set c.same;
        count = omega arith;
      }

  pub fill_oldest : (x y : Option T) (ys : List (Option T)) → list yss k ≡ y ∷ ys →
      (q.head < length cs) × ((at cs q.head).item ≡ y) × Chains (filled cs q.head x) ps (set yss k (x ∷ ys))
  fill_oldest x y ys e =
      let w = holds_at cs ps yss c k q ik (y ∷ ys) e in
      let n = first_node c.own c.pos cs k 0 q.head y ys q.tail w.1 in
      let l = ap length e in (
        n.within,
        n.holds,
        chains_filled q.head x (x ∷ ys) n.within n.owner (omega arith) (w.0, first_filled c.own c.pos cs q.head x n.within k 0 y ys q.tail w.1),
      )

  pub fill_newest : (x y : Option T) (ys : List (Option T)) → list yss k ≡ ys ++ y ∷ [] →
      (q.tail < length cs) × ((at cs q.tail).item ≡ y) × Chains (filled cs q.tail x) ps (set yss k (ys ++ x ∷ []))
  fill_newest x y ys e =
      let w = holds_at cs ps yss c k q ik (ys ++ y ∷ []) e in
      let n = last_holds c.own c.pos cs k 0 q.head y ys q.tail w.1 in
      let l = ap length e in let la = length-append ys (y ∷ []) in let lb = length-append ys (x ∷ []) in let wl = w.0 in (
        n.1,
        n.2,
        chains_filled q.tail x (ys ++ x ∷ []) n.1 n.0 (omega arith) (omega arith, last_filled c.own c.pos cs q.tail x n.1 k 0 q.head y ys w.1),
      )
