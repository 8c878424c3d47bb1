-- Chains whose cells, or some of whose cells, stay as they were. Assumes nothing.
use Rattle.std.proofs.Common.{◌≡◌, ℕ, suc, ◌<◌, ◌≤◌, ◌≢◌, List, [], ◌∷◌, ◌++◌, length, Option, ap, ◌∙◌, subst, arith}
use Rattle.bank.specs.declared.Cell.{Cell}
use Rattle.bank.specs.Cells.{at, cell}
use Rattle.bank.specs.Chains.{Node, Chain}

module _ {T : Type 0} (own pos : ℕ → ℕ) (cs : List (Cell T)) (k : ℕ) where
  -- the place of the last cell is not before that of the first
  pub last_late : (p i : ℕ) (x : Option T) (xs : List (Option T)) (t : ℕ) → Chain own pos cs k p i (x ∷ xs) t → p ≤ pos t
  last_late p i x [] t (n, e) = rw (← e) n.late
  last_late p i x (y ∷ ys) t (n, r) = let h = last_late (suc (pos i)) (at cs i).next y ys t r in let l = n.late in omega arith

  -- a cell that others follow is not the last
  pub not_last : (p i : ℕ) (x : Option T) (xs : List (Option T)) (t : ℕ) → Chain own pos cs k (suc (pos i)) p (x ∷ xs) t → i ≢ t
  not_last p i x xs t r e =
      let late = last_late (suc (pos i)) p x xs t r in
      let f : suc (pos t) ≤ pos t = subst (λ (u : ℕ). suc (pos u) ≤ pos t) e late in omega arith

  -- the last cell is the chain's
  pub last_owner : (p i : ℕ) (x : Option T) (xs : List (Option T)) (t : ℕ) → Chain own pos cs k p i (x ∷ xs) t → (own t ≡ k) × (t < length cs)
  last_owner p i x [] t (n, e) = (rw (← e) n.owner, rw (← e) n.within)
  last_owner p i x (y ∷ ys) t (n, r) = last_owner (suc (pos i)) (at cs i).next y ys t r

  pub first_node : (p i : ℕ) (x : Option T) (xs : List (Option T)) (t : ℕ) → Chain own pos cs k p i (x ∷ xs) t → Node own pos cs k p i x
  first_node p i x [] t (n, e) = n
  first_node p i x (y ∷ ys) t (n, r) = n

  pub rest_chain : (p i : ℕ) (x : Option T) (xs : List (Option T)) (t : ℕ) → Chain own pos cs k p i (x ∷ xs) t → Chain own pos cs k (suc (pos i)) (at cs i).next xs t
  rest_chain p i x [] t _ = tt
  rest_chain p i x (y ∷ ys) t (n, r) = r

  -- a later start is a start
  pub sooner : (p i : ℕ) (xs : List (Option T)) (t : ℕ) → Chain own pos cs k p i xs t → Chain own pos cs k 0 i xs t
  sooner p i [] t _ = tt
  sooner p i (x ∷ []) t (n, e) = (record { within = n.within; owner = n.owner; late = omega arith; holds = n.holds }, e)
  sooner p i (x ∷ (y ∷ ys)) t (n, r) = (record { within = n.within; owner = n.owner; late = omega arith; holds = n.holds }, r)

  module _ (own' pos' : ℕ → ℕ) (ds : List (Cell T)) (long : length ds ≡ length cs) where
    pub node_same : {p i : ℕ} {x : Option T} → (at ds i).item ≡ (at cs i).item → own' i ≡ own i → pos' i ≡ pos i → Node own pos cs k p i x → Node own' pos' ds k p i x
    node_same {p} {i} {x} e o q n =
        let w = n.within in let l = n.late in
        record { within = omega arith; owner = o ∙ n.owner; late = omega arith; holds = e ∙ n.holds }

    -- a chain whose cells and labels from the place p on are as they were
    pub frame : (p : ℕ) → ((j : ℕ) → own j ≡ k → p ≤ pos j → (at ds j ≡ at cs j) × (own' j ≡ own j) × (pos' j ≡ pos j)) →
        (i : ℕ) (xs : List (Option T)) (t : ℕ) → Chain own pos cs k p i xs t → Chain own' pos' ds k p i xs t
    frame p agree i [] t _ = tt
    frame p agree i (x ∷ []) t (n, e) =
        let a = agree i n.owner n.late in (node_same (ap (λ c. c.item) a.0) a.1 a.2 n, e)
    frame p agree i (x ∷ (y ∷ ys)) t (n, r) =
        let a = agree i n.owner n.late in
        let l = n.late in
        let on = frame (suc (pos i)) (λ j o h. agree j o (omega arith)) (at cs i).next (y ∷ ys) t r in
        (node_same (ap (λ c. c.item) a.0) a.1 a.2 n, rw (a.0, a.2) on)

    -- a chain with one more cell behind its last, which points to it
    pub extend : (m : ℕ) (z : Option T) (t : ℕ) → Node own' pos' ds k (suc (pos t)) m z → at ds t ≡ cell m (at cs t).item →
        ((j : ℕ) → own j ≡ k → (j ≢ t → at ds j ≡ at cs j) × (own' j ≡ own j) × (pos' j ≡ pos j)) →
        (p i : ℕ) (x : Option T) (xs : List (Option T)) → Chain own pos cs k p i (x ∷ xs) t → Chain own' pos' ds k p i ((x ∷ xs) ++ z ∷ []) m
    extend m z t new link agree p i x [] (n, e) =
        let a = agree i n.owner in
        let d : at ds i ≡ cell m (at cs i).item = rw e link in
        let to : (at ds i).next ≡ m = ap (λ c. c.next) d in
        let nn : Node own' pos' ds k (suc (pos' i)) m z = rw (a.2, e) new in
        (node_same (ap (λ c. c.item) d) a.1 a.2 n, (rw to nn, to))
    extend m z t new link agree p i x (y ∷ ys) (n, r) =
        let a = agree i n.owner in
        let ne = not_last (at cs i).next i y ys t r in
        let on = extend m z t new link agree (suc (pos i)) (at cs i).next y ys r in
        (node_same (ap (λ c. c.item) (a.0 ne)) a.1 a.2 n, rw (a.0 ne, a.2) on)
