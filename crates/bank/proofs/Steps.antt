-- What each call of the bank does to the lists. Assumes nothing.
use Rattle.std.proofs.Common.{◌≡◌, ℕ, suc, ◌+◌, ◌-◌, ◌<◌, Bool, true, false, cond, ◌==◌, ◌≢◌, List, [], ◌∷◌, ◌++◌, map, length, set, replicate, is_some, Some, None, Ok, Err, Option, Result, sym, refl, ap, ◌∙◌, arith, length-set, eq-eqb, ne_eqb}
use native.Mathlib.Nat.{suc_inj}
use lib.ListN.{length-map}
use Rattle.std.proofs.lemmas.List.{get_or-set_same, get_or-map, set-get_or, set-set, map-set, map_push, replicate_more}
use Rattle.std.proofs.lemmas.Bool.{le-ltb, and_left, both_ways, cond-true, cond-false}
use Rattle.std.specs.Option.{unwrap_or}
use Rattle.bank.specs.declared.Cell.{Cell}
use Rattle.bank.specs.declared.Queue.{Queue}
use Rattle.bank.specs.Lists.{oldest, rest, newest, older, push, list, put}
use Rattle.bank.specs.Cells.{empty, first, last, last_or, linkable, filled, Relinked, Filled, Emptied, Swapped, Looked}
use Rattle.bank.specs.Chains.{Chains}
use Rattle.bank.specs.Banks.{Mem, mem, Is, Keeps, Adds, Takes, ReadsOldest, ReadsNewest, Rewrites, moved, Moves}
use Rattle.bank.proofs.Frames.{first_node}
use Rattle.bank.proofs.Links.{holds_at, link_can, link_chains}
use Rattle.bank.proofs.Fills.{last_holds, fill_oldest, fill_newest}

-- the first of no cells cannot move
cannot : (n : ℕ) (p q : Queue) (t : ℕ) → p.len ≡ 0 → linkable n p q t ≡ false
cannot n p q t e = and_left _ _ (le-ltb 0 p.len (omega arith))

-- an end of a queue, if it has a cell
pub none_at : (q : Queue) (i : ℕ) → q.len ≡ 0 → cond (q.len == 0) None (Some i) ≡ None
none_at q i z = cond-true _ _ _ (eq-eqb _ _ z)

pub some_at : (q : Queue) (i : ℕ) → 0 < q.len → cond (q.len == 0) None (Some i) ≡ Some i
some_at q i h = cond-false _ _ _ (ne_eqb q.len 0 (λ z. omega arith))

-- an end of a queue, or i where it has none
pub unwrap_end : (b : Bool) (e i : ℕ) → unwrap_or (cond b None (Some e)) i ≡ cond b i e
unwrap_end true e i = refl
unwrap_end false e i = refl

pub set_same : (qs : List Queue) (k : ℕ) (q : Queue) → Is qs k q → set qs k q ≡ qs
set_same qs k q i = ap (λ (u : Queue). set qs k u) (sym i.1) ∙ set-get_or qs k empty

module _ {T : Type 0} where
  -- the chains of a memory: the free cells first
  abbrev Free : Mem T → List (Option T)
  Free m = replicate m.free.len None

  module _ (m : Mem T) (qs : List Queue) (xss : List (List T)) (w : Keeps m qs xss) where
    pub opened : Chains m.cells (m.free ∷ qs) (Free m ∷ map (map Some) xss)
    unfolding Keeps
    opened = w

    pub same_many : length qs ≡ length xss
    same_many = let s = opened.same in let l = length-map xss (map {A = T} Some) in omega arith

    module _ (k : ℕ) (q : Queue) (i : Is qs k q) where
      inside : k < length xss
      inside = let h = i.0 in let s = same_many in omega arith

      -- the k-th queue is the chain k + 1
      pub chain_is : Is (m.free ∷ qs) (suc k) q
      chain_is = let h = i.0 in (omega arith, i.1)

      pub list_is : (xs : List T) → list xss k ≡ xs → list (Free m ∷ map (map Some) xss) (suc k) ≡ map Some xs
      list_is xs e = get_or-map (map Some) xss k [] [] inside ∙ ap (map Some) e

      pub len_is : (xs : List T) → list xss k ≡ xs → q.len ≡ length xs
      len_is xs e = (holds_at m.cells _ _ opened (suc k) q chain_is (map Some xs) (list_is xs e)).0 ∙ length-map xs Some

  -- the free cells when there is one
  some_free : (f : Queue) → 0 < f.len → replicate {A = Option T} f.len None ≡ None ∷ replicate (f.len - 1) None
  some_free f h = let e : f.len ≡ suc (f.len - 1) = omega arith in ap (λ (n : ℕ). replicate {A = Option T} n None) e

  module _ (f : Queue) (cs : List (Cell T)) (q f' : Queue) (ds : List (Cell T)) (q' : Queue) where
    -- no cell could be moved
    pub add_refused : (x : T) (b : Bool) → b ≡ false → Relinked cs f q ds f' q' b → Adds (mem f cs) q x (mem f' ds) q' (Err x)
    add_refused x b eb s qs xss k w i = (
      λ h.
          let c = opened (mem f cs) qs xss w in
          let a = link_can cs (f ∷ qs) (Free (mem f cs) ∷ map (map Some) xss) c 0 (suc k) (λ e. omega arith) f q (omega arith, refl) (chain_is (mem f cs) qs xss w k q i) None (replicate (f.len - 1) None) (some_free f h) in
          let d = s.did a.can in absurd (both_ways b eb d.0),
      λ z.
          let d = s.refused (cannot (length cs) f q (last_or q f.head) z) in
          (refl, rw (d.1, d.3) refl, d.2),
    )

    -- a free cell was moved, and filled
    pub add_did : (x : T) (b : Bool) → b ≡ true → (es : List (Cell T)) (r : Result (Unit {0}) T) → Relinked cs f q ds f' q' b → Filled ds q'.tail x es r → Adds (mem f cs) q x (mem f' es) q' r
    unfolding Keeps
    add_did x ok eb es r s t qs xss k w i = (
      λ h.
          let c = opened (mem f cs) qs xss w in
          let ys = Free (mem f cs) ∷ map (map Some) xss in
          let ci = chain_is (mem f cs) qs xss w k q i in
          let li = list_is (mem f cs) qs xss w k q i (list xss k) refl in
          let fr = replicate {A = Option T} (f.len - 1) None in
          let ef = some_free f h in
          let ne : 0 ≢ suc k = λ e. omega arith in
          let a = link_can cs (f ∷ qs) ys c 0 (suc k) ne f q (omega arith, refl) ci None fr ef in
          let d = s.did a.can in
          let c1 : Chains ds (f' ∷ set qs k q') (fr ∷ set (map (map Some) xss) k (map Some (list xss k) ++ None ∷ [])) =
          rw (d.1, d.2, d.3) (rw li at (link_chains cs (f ∷ qs) ys c 0 (suc k) ne f q (omega arith, refl) ci None fr ef)) in
          let iq : Is (f' ∷ set qs k q') (suc k) q' = let hk = i.0 in (simp length-set (omega arith), get_or-set_same qs k q' empty i.0) in
          let kx : k < length (map (map Some) xss) = simp length-map (inside (mem f cs) qs xss w k q i) in
          let n = fill_newest ds (f' ∷ set qs k q') (fr ∷ set (map (map Some) xss) k (map Some (list xss k) ++ None ∷ [])) c1 (suc k) q' iq (Some x) None (map Some (list xss k)) (get_or-set_same (map (map Some) xss) k _ [] kx) in
          let b = t.did n.0 n.1 in
          let lf : f'.len ≡ f.len - 1 = ap (λ (u : Queue). u.len) d.1 in
          let e2 : set (set (map (map Some) xss) k (map Some (list xss k) ++ None ∷ [])) k (map Some (list xss k) ++ Some x ∷ []) ≡ map (map Some) (put xss k (push (list xss k) x)) =
          rw (set-set, map-set, map_push) refl in
          let c2 : Chains (filled ds q'.tail (Some x)) (f' ∷ set qs k q') (fr ∷ set (set (map (map Some) xss) k (map Some (list xss k) ++ None ∷ [])) k (map Some (list xss k) ++ Some x ∷ [])) = n.2 in
          let e1 : fr ≡ replicate f'.len None = ap (λ (u : ℕ). replicate {A = Option T} u None) (sym lf) in
          (b.0, rw b.1 (rw (e2, e1) at c2), omega arith),
      λ z.
          let d = s.refused (cannot (length cs) f q (last_or q f.head) z) in absurd (both_ways ok d.0 eb),
    )

    -- nothing could be moved
    pub take_refused : (b : Bool) → b ≡ false → Relinked cs q f ds q' f' b → Takes (mem f cs) q (mem f' ds) q' None
    take_refused b eb s qs xss k w i = by (list xss k) refl
      where
        by : (xs : List T) → list xss k ≡ xs → (None ≡ oldest xs) × Keeps (mem f' ds) (set qs k q') (put xss k (rest xs)) × (xs ≡ [] → (mem f' ds ≡ mem f cs) × (q' ≡ q)) × (is_some {T = T} None ≡ true → f'.len ≡ f.len + 1)
        by [] e =
            let z = len_is (mem f cs) qs xss w k q i [] e in
            let d = s.refused (cannot (length cs) q f (last_or f q.head) z) in
            let m : mem f' ds ≡ mem f cs = rw (d.2, d.3) refl in
            let ex : put xss k [] ≡ xss = ap (λ (u : List T). set xss k u) (sym e) ∙ set-get_or xss k [] in
            (refl, rw (m, d.1, set_same qs k q i, ex) w, λ _. (m, d.1), λ u. absurd (both_ways _ refl u))
        by (y ∷ ys) e =
            let c = opened (mem f cs) qs xss w in
            let a = link_can cs (f ∷ qs) _ c (suc k) 0 (λ u. omega arith) q f (chain_is (mem f cs) qs xss w k q i) (omega arith, refl) (Some y) (map Some ys) (list_is (mem f cs) qs xss w k q i (y ∷ ys) e) in
            let d = s.did a.can in absurd (both_ways b eb d.0)

    -- a cell was freed, and emptied
    pub take_did : (b : Bool) → b ≡ true → (es : List (Cell T)) (r : Option T) → Relinked cs q f ds q' f' b → Emptied ds f'.tail es r → Takes (mem f cs) q (mem f' es) q' r
    unfolding Keeps
    take_did ok eb es r s t qs xss k w i = by (list xss k) refl
      where
        by : (xs : List T) → list xss k ≡ xs → (r ≡ oldest xs) × Keeps (mem f' es) (set qs k q') (put xss k (rest xs)) × (xs ≡ [] → (mem f' es ≡ mem f cs) × (q' ≡ q)) × (is_some r ≡ true → f'.len ≡ f.len + 1)
        by [] e =
            let z = len_is (mem f cs) qs xss w k q i [] e in
            let d = s.refused (cannot (length cs) q f (last_or f q.head) z) in absurd (both_ways ok d.0 eb)
        by (y ∷ ys) e =
            let c = opened (mem f cs) qs xss w in
            let yss = Free (mem f cs) ∷ map (map Some) xss in
            let ci = chain_is (mem f cs) qs xss w k q i in
            let li = list_is (mem f cs) qs xss w k q i (y ∷ ys) e in
            let ne : suc k ≢ 0 = λ u. omega arith in
            let fr = Free (mem f cs) in
            let a = link_can cs (f ∷ qs) yss c (suc k) 0 ne q f ci (omega arith, refl) (Some y) (map Some ys) li in
            let d = s.did a.can in
            let c1 : Chains ds (f' ∷ set qs k q') ((fr ++ Some y ∷ []) ∷ set (map (map Some) xss) k (map Some ys)) =
            rw (d.1, d.2, d.3) (link_chains cs (f ∷ qs) yss c (suc k) 0 ne q f ci (omega arith, refl) (Some y) (map Some ys) li) in
            let n = fill_newest ds (f' ∷ set qs k q') ((fr ++ Some y ∷ []) ∷ set (map (map Some) xss) k (map Some ys)) c1 0 f' (omega arith, refl) None (Some y) fr refl in
            let b = t.did n.0 in
            let lf : f'.len ≡ f.len + 1 = ap (λ (u : Queue). u.len) d.2 in
            let e1 : fr ++ None ∷ [] ≡ replicate f'.len None = replicate_more f.len None ∙ ap (λ (u : ℕ). replicate {A = Option T} u None) (sym lf) in
            let e2 : set (map (map Some) xss) k (map Some ys) ≡ map (map Some) (put xss k ys) = sym (map-set (map Some) xss k ys) in
            let c2 : Chains (filled ds f'.tail None) (f' ∷ set qs k q') ((fr ++ None ∷ []) ∷ set (map (map Some) xss) k (map Some ys)) = n.2 in
            (b.0 ∙ n.1, rw b.1 (rw (e1, e2) at c2), λ z. let u = ap length z in absurd (omega arith), λ _. lf)

  -- the first cell of a queue went to another queue
  pub moves : (f : Queue) (cs : List (Cell T)) (p q : Queue) (ds : List (Cell T)) (p' q' : Queue) (r : Bool) → Relinked cs p q ds p' q' r → Moves (mem f cs) p q (mem f ds) p' q' r
  unfolding Keeps
  moves f cs p q ds p' q' r s qs xss k j w ik ij ne = by (list xss k) refl
    where
      by : (xs : List T) → list xss k ≡ xs → (r ≡ is_some (oldest xs)) × Keeps (mem f ds) (set (set qs k p') j q') (moved xss k j (oldest xs)) × (f.len ≡ f.len)
      by [] e =
          let z = len_is (mem f cs) qs xss w k p ik [] e in
          let d = s.refused (cannot (length cs) p q (last_or q p.head) z) in
          let e1 = set_same qs k p ik in let e2 = set_same qs j q ij in
          (d.0, rw (d.1, d.2, d.3, e1, e2) w, refl)
      by (y ∷ ys) e =
          let c = opened (mem f cs) qs xss w in
          let yss = Free (mem f cs) ∷ map (map Some) xss in
          let ci = chain_is (mem f cs) qs xss w k p ik in let cj = chain_is (mem f cs) qs xss w j q ij in
          let li = list_is (mem f cs) qs xss w k p ik (y ∷ ys) e in
          let lj = list_is (mem f cs) qs xss w j q ij (list xss j) refl in
          let nn : suc k ≢ suc j = λ u. ne (suc_inj u) in
          let a = link_can cs (f ∷ qs) yss c (suc k) (suc j) nn p q ci cj (Some y) (map Some ys) li in
          let d = s.did a.can in
          let n = rw lj at (link_chains cs (f ∷ qs) yss c (suc k) (suc j) nn p q ci cj (Some y) (map Some ys) li) in
          let er : rest (list xss k) ≡ ys = ap rest e in
          let e2 : set (set (map (map Some) xss) k (map Some ys)) j (map Some (list xss j) ++ Some y ∷ []) ≡ map (map Some) (put (put xss k (rest (list xss k))) j (push (list xss j) y)) =
          rw (er, map-set, map-set, map_push) refl in
          (d.0, rw (d.1, d.2, d.3) (rw e2 at n), refl)

  -- reading the two ends
  pub reads_oldest : (f : Queue) (cs : List (Cell T)) (q : Queue) (i : Option ℕ) (r : Option T) → Looked cs i r → i ≡ first q → ReadsOldest (mem f cs) q r
  reads_oldest f cs q j r l ej qs xss k w i = by (list xss k) refl
    where
      by : (xs : List T) → list xss k ≡ xs → r ≡ oldest xs
      by [] e = l.none (ej ∙ none_at q q.head (len_is (mem f cs) qs xss w k q i [] e))
      by (y ∷ ys) e =
          let h = holds_at cs _ _ (opened (mem f cs) qs xss w) (suc k) q (chain_is (mem f cs) qs xss w k q i) (map Some (y ∷ ys)) (list_is (mem f cs) qs xss w k q i (y ∷ ys) e) in
          let n = first_node _ _ cs (suc k) 0 q.head (Some y) (map Some ys) q.tail h.1 in
          l.some q.head (ej ∙ some_at q q.head (let u = h.0 in omega arith)) n.within ∙ n.holds

  -- a list by its newest
  by_newest : (x : T) (xs : List T) → (y : T) × ((newest (x ∷ xs) ≡ Some y) × (x ∷ xs ≡ push (older (x ∷ xs)) y))
  by_newest x [] = (x, (refl, refl))
  by_newest x (z ∷ zs) = let r = by_newest z zs in (r.0, (r.1.0, ap (λ (u : List T). x ∷ u) r.1.1))

  pub reads_newest : (f : Queue) (cs : List (Cell T)) (q : Queue) (i : Option ℕ) (r : Option T) → Looked cs i r → i ≡ last q → ReadsNewest (mem f cs) q r
  reads_newest f cs q j r l ej qs xss k w i = by (list xss k) refl
    where
      by : (xs : List T) → list xss k ≡ xs → r ≡ newest xs
      by [] e = l.none (ej ∙ none_at q q.tail (len_is (mem f cs) qs xss w k q i [] e))
      by (y ∷ ys) e =
          let b = by_newest y ys in
          let eb : map Some (y ∷ ys) ≡ map Some (older (y ∷ ys)) ++ Some b.0 ∷ [] = ap (map Some) b.1.1 ∙ map_push Some (older (y ∷ ys)) b.0 in
          let h = holds_at cs _ _ (opened (mem f cs) qs xss w) (suc k) q (chain_is (mem f cs) qs xss w k q i) _ (list_is (mem f cs) qs xss w k q i (y ∷ ys) e ∙ eb) in
          let n = last_holds _ _ cs (suc k) 0 q.head (Some b.0) (map Some (older (y ∷ ys))) q.tail h.1 in
          let ln = len_is (mem f cs) qs xss w k q i (y ∷ ys) e in
          l.some q.tail (ej ∙ some_at q q.tail (omega arith)) n.1 ∙ n.2 ∙ sym b.1.0

  none_long : (x : T) (xs : List T) → newest (x ∷ xs) ≡ None → ⊥
  none_long x xs e = let b = by_newest x xs in let u = b.1.0 in let z : ◌≡◌ {A = ℕ} 0 1 = cc in omega arith

  module _ (f : Queue) (cs : List (Cell T)) (q : Queue) (x : T) where
    -- an empty queue has nothing to rewrite, whichever element is meant
    pub rewrites_none : (which : List T → Option T) (after : List T → List T) → which [] ≡ None → q.len ≡ 0 → Rewrites which after (mem f cs) q x (mem f cs) (Err x)
    rewrites_none which after en z qs xss k w i =
        let ln = len_is (mem f cs) qs xss w k q i (list xss k) refl in
        let e = nothing (list xss k) (omega arith) in
        (λ y u. let v : which (list xss k) ≡ None = ap which e ∙ en in let c : ◌≡◌ {A = ℕ} 0 1 = cc in absurd (omega arith), λ _. (refl, refl))
      where
        nothing : (xs : List T) → length xs ≡ 0 → xs ≡ []
        nothing [] h = refl
        nothing (y ∷ ys) h = absurd (omega arith)

    module _ (ds : List (Cell T)) (j : Option ℕ) (r : Result T T) where
      -- an empty queue has nothing to rewrite
      nothing : (r ≡ Err x) × (ds ≡ cs) → (r ≡ Err x) × (mem f ds ≡ mem f cs)
      nothing (a, b) = (a, ap (mem f) b)

      pub rewrites_oldest : Swapped cs j x ds r → j ≡ first q → Rewrites oldest (λ xs. x ∷ rest xs) (mem f cs) q x (mem f ds) r
      unfolding Keeps
      rewrites_oldest s ej qs xss k w i = by (list xss k) refl
        where
          by : (xs : List T) → list xss k ≡ xs → ((y : T) → oldest xs ≡ Some y → (r ≡ Ok y) × Keeps (mem f ds) qs (put xss k (x ∷ rest xs)) × (f.len ≡ f.len)) × (oldest xs ≡ None → (r ≡ Err x) × (mem f ds ≡ mem f cs))
          by [] e = (λ y u. let c : ◌≡◌ {A = ℕ} 0 1 = cc in absurd (omega arith), λ _. nothing (s.refused (ej ∙ none_at q q.head (len_is (mem f cs) qs xss w k q i [] e))))
          by (z ∷ zs) e = (
            λ y u.
                let n = fill_oldest cs (f ∷ qs) (Free (mem f cs) ∷ map (map Some) xss) (opened (mem f cs) qs xss w) (suc k) q (chain_is (mem f cs) qs xss w k q i) (Some x) (Some z) (map Some zs) (list_is (mem f cs) qs xss w k q i (z ∷ zs) e) in
                let ez : z ≡ y = cc in
                let ln = len_is (mem f cs) qs xss w k q i (z ∷ zs) e in
                let d = s.did q.head (ej ∙ some_at q q.head (omega arith)) n.0 y (n.1 ∙ ap Some ez) in
                let e2 : set (map (map Some) xss) k (Some x ∷ map Some zs) ≡ map (map Some) (put xss k (x ∷ zs)) = sym (map-set (map Some) xss k (x ∷ zs)) in
                let c2 : Chains (filled cs q.head (Some x)) (f ∷ qs) (Free (mem f cs) ∷ set (map (map Some) xss) k (Some x ∷ map Some zs)) = n.2 in
                (d.0, rw d.1 (rw e2 at c2), refl),
            λ u. let c : ◌≡◌ {A = ℕ} 0 1 = cc in absurd (omega arith),
          )

      pub rewrites_newest : Swapped cs j x ds r → j ≡ last q → Rewrites newest (λ xs. push (older xs) x) (mem f cs) q x (mem f ds) r
      unfolding Keeps
      rewrites_newest s ej qs xss k w i = by (list xss k) refl
        where
          by : (xs : List T) → list xss k ≡ xs → ((y : T) → newest xs ≡ Some y → (r ≡ Ok y) × Keeps (mem f ds) qs (put xss k (push (older xs) x)) × (f.len ≡ f.len)) × (newest xs ≡ None → (r ≡ Err x) × (mem f ds ≡ mem f cs))
          by [] e = (λ y u. let c : ◌≡◌ {A = ℕ} 0 1 = cc in absurd (omega arith), λ _. nothing (s.refused (ej ∙ none_at q q.tail (len_is (mem f cs) qs xss w k q i [] e))))
          by (z ∷ zs) e = (
            λ y u.
                let b = by_newest z zs in
                let v = b.1.0 in
                let ey : b.0 ≡ y = cc in
                let eb : map Some (z ∷ zs) ≡ map Some (older (z ∷ zs)) ++ Some b.0 ∷ [] = ap (map Some) b.1.1 ∙ map_push Some (older (z ∷ zs)) b.0 in
                let n = fill_newest cs (f ∷ qs) (Free (mem f cs) ∷ map (map Some) xss) (opened (mem f cs) qs xss w) (suc k) q (chain_is (mem f cs) qs xss w k q i) (Some x) (Some b.0) (map Some (older (z ∷ zs))) (list_is (mem f cs) qs xss w k q i (z ∷ zs) e ∙ eb) in
                let ln = len_is (mem f cs) qs xss w k q i (z ∷ zs) e in
                let d = s.did q.tail (ej ∙ some_at q q.tail (omega arith)) n.0 y (n.1 ∙ ap Some ey) in
                let e2 : set (map (map Some) xss) k (map Some (older (z ∷ zs)) ++ Some x ∷ []) ≡ map (map Some) (put xss k (push (older (z ∷ zs)) x)) =
                rw (map-set, map_push) refl in
                let c2 : Chains (filled cs q.tail (Some x)) (f ∷ qs) (Free (mem f cs) ∷ set (map (map Some) xss) k (map Some (older (z ∷ zs)) ++ Some x ∷ [])) = n.2 in
                (d.0, rw d.1 (rw e2 at c2), refl),
            λ u. absurd (none_long z zs u),
          )
