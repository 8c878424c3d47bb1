-- The numbers of the chains are no matter, and an empty one more or less neither. Assumes nothing.
use Rattle.std.proofs.Common.{◌≡◌, ℕ, zero, suc, ◌+◌, ◌-◌, ◌<◌, ◌≤◌, true, false, cond, ltb, ◌≢◌, ◌⊎◌, List, [], ◌∷◌, ◌++◌, map, length, get_or, set, replicate, Some, None, Option, sym, refl, ap, ◌∙◌, inl, inr, ⊎_elim, arith, length-append, length-set}
use lib.ListN.{length-map}
use Rattle.std.proofs.lemmas.List.{get_or_append_left, get_or-append_right, get_or-append-add, map-append, get_or-map, get_or-set_same, get_or-set_other}
use Rattle.std.proofs.lemmas.Bool.{cases_lt, cases_eq, lt-ltb, le-ltb}
use Rattle.bank.specs.declared.Cell.{Cell}
use Rattle.bank.specs.declared.Queue.{Queue}
use Rattle.bank.specs.Lists.{list, total}
use Rattle.bank.specs.Cells.{at, empty}
use Rattle.bank.specs.Chains.{Chain, Chains}
use Rattle.bank.specs.Banks.{Mem, Keeps}

-- a queue is put in front of the others, behind the free cells
up : ℕ → ℕ
up zero = zero
up (suc k) = suc (suc k)

-- the front queue goes
down : ℕ → ℕ
down zero = zero
down (suc k) = k

-- the first a queues go behind the others, of which there are b
over : ℕ → ℕ → ℕ → ℕ
over a b zero = zero
over a b (suc k) = cond (ltb k a) (suc (b + k)) (suc (k - a))

module _ {T : Type 0} where
  chain_own : (own own' pos : ℕ → ℕ) (cs : List (Cell T)) (k k' : ℕ) → ((i : ℕ) → own i ≡ k → own' i ≡ k') →
      (p i : ℕ) (xs : List (Option T)) (t : ℕ) → Chain own pos cs k p i xs t → Chain own' pos cs k' p i xs t
  chain_own own own' pos cs k k' e p i [] t c = tt
  chain_own own own' pos cs k k' e p i (x ∷ []) t (n, q) = (record { within = n.within; owner = e i n.owner; late = n.late; holds = n.holds }, q)
  chain_own own own' pos cs k k' e p i (x ∷ (y ∷ ys)) t (n, q) =
      (record { within = n.within; owner = e i n.owner; late = n.late; holds = n.holds }, chain_own own own' pos cs k k' e (suc (pos i)) (at cs i).next (y ∷ ys) t q)

  -- the j-th of the new chains is empty, or was the i-th
  abbrev From : (ℕ → ℕ) → List Queue → List (List (Option T)) → List Queue → List (List (Option T)) → ℕ → Type 0
  From f ps yss ps' yss' j = (((get_or ps' j empty).len ≡ 0) × (list yss' j ≡ []))
      ⊎ ((i : ℕ) × (i < length ps) × (get_or ps' j empty ≡ get_or ps i empty) × (list yss' j ≡ list yss i) × (f i ≡ j))

  renumber : (cs : List (Cell T)) (ps : List Queue) (yss : List (List (Option T))) (f : ℕ → ℕ) → Chains cs ps yss →
      (ps' : List Queue) (yss' : List (List (Option T))) → length ps' ≡ length yss' → total yss' ≡ total yss → ((j : ℕ) → j < length ps' → From f ps yss ps' yss' j) → Chains cs ps' yss'
  renumber cs ps yss f c ps' yss' same tot from =
      let own = c.own in let pos = c.pos in
      record {
        own = λ i. f (own i);
        pos = pos;
        each = λ j l. ⊎_elim
            (λ (e : ((get_or ps' j empty).len ≡ 0) × (list yss' j ≡ [])). rw e.1 (e.0, tt))
            (λ (e : (i : ℕ) × (i < length ps) × (get_or ps' j empty ≡ get_or ps i empty) × (list yss' j ≡ list yss i) × (f i ≡ j)).
            let h = c.each e.0 e.1 in
            rw (e.2, e.3) (h.0, chain_own own (λ i. f (own i)) pos cs e.0 j (λ i o. ap f o ∙ e.4) 0 (get_or ps e.0 empty).head (list yss e.0) (get_or ps e.0 empty).tail h.1))
            (from j l);
        same = same;
        count = tot ∙ c.count;
      }

  -- one empty queue more
  pub keeps_front : (m : Mem T) (qs : List Queue) (xss : List (List T)) → Keeps m qs xss → Keeps m (empty ∷ qs) ([] ∷ xss)
  unfolding Keeps up
  keeps_front m qs xss c =
      let fs : List (Option T) = replicate m.free.len None in let s = c.same in
      renumber m.cells (m.free ∷ qs) (fs ∷ map (map Some) xss) up c (m.free ∷ (empty ∷ qs)) (fs ∷ ([] ∷ map (map Some) xss)) (omega arith) (omega arith)
      (λ j l. elim j as (λ (v : ℕ). v < length (m.free ∷ (empty ∷ qs)) → From up (m.free ∷ qs) (fs ∷ map (map Some) xss) (m.free ∷ (empty ∷ qs)) (fs ∷ ([] ∷ map (map Some) xss)) v) [
        | zero ↦ λ _. inr (0, omega arith, refl, refl, refl)
        | suc i ↦ elim i as (λ (v : ℕ). suc v < length (m.free ∷ (empty ∷ qs)) → From up (m.free ∷ qs) (fs ∷ map (map Some) xss) (m.free ∷ (empty ∷ qs)) (fs ∷ ([] ∷ map (map Some) xss)) (suc v))
            [ zero ↦ λ _. inl (refl, refl) | suc n ↦ λ h. inr (suc n, omega arith, refl, refl, refl) ]
      ] l)

  -- one empty queue less
  pub keeps_less : (m : Mem T) (q : Queue) (qs : List Queue) (xss : List (List T)) → Keeps m (q ∷ qs) ([] ∷ xss) → Keeps m qs xss
  unfolding Keeps down
  keeps_less m q qs xss c =
      let fs : List (Option T) = replicate m.free.len None in let s = c.same in
      renumber m.cells (m.free ∷ (q ∷ qs)) (fs ∷ ([] ∷ map (map Some) xss)) down c (m.free ∷ qs) (fs ∷ map (map Some) xss) (omega arith) (omega arith)
      (λ j l. elim j as (λ (v : ℕ). v < length (m.free ∷ qs) → From down (m.free ∷ (q ∷ qs)) (fs ∷ ([] ∷ map (map Some) xss)) (m.free ∷ qs) (fs ∷ map (map Some) xss) v)
      [ zero ↦ λ _. inr (0, omega arith, refl, refl, refl) | suc n ↦ λ h. inr (suc (suc n), omega arith, refl, refl, refl) ] l)

  -- any number of empty queues more
  pub keeps_empties : (n : ℕ) (m : Mem T) (qs : List Queue) (xss : List (List T)) → Keeps m qs xss → Keeps m (replicate n empty ++ qs) (replicate n [] ++ xss)
  keeps_empties zero m qs xss r = r
  keeps_empties (suc n) m qs xss r = keeps_front m (replicate n empty ++ qs) (replicate n [] ++ xss) (keeps_empties n m qs xss r)

  -- a queue with nothing in it is as good as a new one
  pub keeps_reset : (m : Mem T) (qs : List Queue) (xss : List (List T)) (k : ℕ) → Keeps m qs xss → k < length qs → list xss k ≡ [] → Keeps m (set qs k empty) xss
  unfolding Keeps
  keeps_reset m qs xss k c h e =
      let fs : List (Option T) = replicate m.free.len None in let s = c.same in let ls = length-set qs k empty in let lm = length-map xss (map {A = T} Some) in
      renumber m.cells (m.free ∷ qs) (fs ∷ map (map Some) xss) (λ i. i) c (m.free ∷ set qs k empty) (fs ∷ map (map Some) xss) (omega arith) refl
      (λ j l. elim j as (λ (v : ℕ). v < length (m.free ∷ set qs k empty) → From (λ i. i) (m.free ∷ qs) (fs ∷ map (map Some) xss) (m.free ∷ set qs k empty) (fs ∷ map (map Some) xss) v) [
        | zero ↦ λ _. inr (0, omega arith, refl, refl, refl)
        | suc n ↦ λ u. ⊎_elim
            (λ (z : n ≡ k). inl (rw (z, get_or-set_same qs k empty empty h) refl, rw z (get_or-map (map Some) xss k [] [] (omega arith) ∙ ap (map Some) e)))
            (λ (z : n ≢ k). inr (suc n, omega arith, get_or-set_other qs k n empty empty z, refl, refl))
            (cases_eq n k)
      ] l)

  total-append : (xs ys : List (List T)) → total (xs ++ ys) ≡ total xs + total ys
  total-append [] ys = omega arith
  total-append (x ∷ xs) ys = let h = total-append xs ys in omega arith

  pub total_some : (xss : List (List T)) → total (map (map Some) xss) ≡ total xss
  total_some [] = refl
  total_some (xs ∷ xss) = let h = total_some xss in let l = length-map xs Some in omega arith

  -- the first queues go behind the others
  pub keeps-swap : (m : Mem T) (ps qs : List Queue) (xs ys : List (List T)) → length ps ≡ length xs → Keeps m (ps ++ qs) (xs ++ ys) → Keeps m (qs ++ ps) (ys ++ xs)
  unfolding Keeps over
  keeps-swap m ps qs xs ys e c =
      let fs : List (Option T) = replicate m.free.len None in
      let a = length ps in let b = length qs in
      let la = length-append ps qs in let lb = length-append qs ps in
      let lx = length-append xs ys in let ly = length-append ys xs in
      let l1 = length-map (xs ++ ys) (map Some) in let l2 = length-map (ys ++ xs) (map Some) in
      let l3 = length-map xs (map Some) in let l4 = length-map ys (map Some) in
      let t1 = total-append xs ys in let t2 = total-append ys xs in let t3 = total_some (xs ++ ys) in let t4 = total_some (ys ++ xs) in
      let sm = c.same in
      renumber m.cells (m.free ∷ (ps ++ qs)) (fs ∷ map (map Some) (xs ++ ys)) (over a b) c (m.free ∷ (qs ++ ps)) (fs ∷ map (map Some) (ys ++ xs)) (omega arith) (omega arith)
      (λ j l. elim j as (λ (v : ℕ). v < length (m.free ∷ (qs ++ ps)) → From (over a b) (m.free ∷ (ps ++ qs)) (fs ∷ map (map Some) (xs ++ ys)) (m.free ∷ (qs ++ ps)) (fs ∷ map (map Some) (ys ++ xs)) v) [
        | zero ↦ λ _. inr (0, omega arith, refl, refl, refl)
        | suc n ↦ λ h. inr (⊎_elim
            (λ (k : n < b).
            let hy : n < length (map (map Some) ys) = omega arith in
            let t : ltb (a + n) a ≡ false = le-ltb (a + n) a (omega arith) in
            let z : a + n - a ≡ n = omega arith in
            let ex : length (map (map Some) xs) ≡ a = omega arith in (
              suc (a + n),
              omega arith,
              get_or_append_left qs ps empty n k ∙ sym (get_or-append-add ps qs n empty),
              rw (map-append, map-append) (get_or_append_left (map (map Some) ys) (map (map Some) xs) [] n hy ∙ sym (rw ex at (get_or-append-add (map (map Some) xs) (map (map Some) ys) n []))),
              rw (t, z) refl,
            ))
            (λ (k : b ≤ n).
            let hx : n - b < length (map (map Some) xs) = omega arith in
            let eb : length (map (map Some) ys) ≡ b = omega arith in
            let ha : n - b < a = omega arith in
            let t : ltb (n - b) a ≡ true = lt-ltb (n - b) a ha in
            let z : b + (n - b) ≡ n = omega arith in (
              suc (n - b),
              omega arith,
              get_or-append_right qs ps b n empty refl k ∙ sym (get_or_append_left ps qs empty (n - b) ha),
              rw (map-append, map-append) (get_or-append_right (map (map Some) ys) (map (map Some) xs) b n [] eb k ∙ sym (get_or_append_left (map (map Some) xs) (map (map Some) ys) [] (n - b) hx)),
              rw (t, z) refl,
            ))
            (cases_lt n b))
      ] l)
