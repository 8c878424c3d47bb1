-- Taking elements out, turn by turn, by the laws alone: no cell is looked at. Assumes nothing.
use Rattle.std.proofs.Common.{◌≡◌, ℕ, suc, ◌+◌, ◌<◌, ◌≤◌, Bool, true, false, cond, not, List, [], ◌∷◌, ◌++◌, length, get_or, take, drop, set, Some, None, filter, sym, refl, ap, ◌∙◌, append_assoc, append-nil, arith, length-set}
use Rattle.std.proofs.lemmas.List.{get_or-set_same, set-get_or, set-set, drop_more, drop_all, take_all}
use Rattle.std.proofs.lemmas.List.Elements.{filter_more}
use Rattle.bank.specs.declared.Queue.{Queue}
use Rattle.bank.specs.Lists.{oldest, rest, push, without, list, put}
use Rattle.bank.specs.Cells.{empty}
use Rattle.bank.specs.Banks.{Mem, Is, Keeps, ReadsOldest, Moves, TakesOut}
use Rattle.bank.specs.Turning.{turned, passing, Turns, Sifts}
use Rattle.bank.proofs.Numbering.{keeps_front, keeps_less}
use Rattle.bank.proofs.Steps.{set_same}
use Rattle.bank.proofs.Laws.{is_here, keeps_same, keeps_len}

module _ {T : Type 0} (f : T → Bool) (m : Mem T) (q o : Queue) where
  turned_by : (x : T) (xs : List T) → Some x ≡ oldest xs → (turned f xs ≡ rest xs ++ cond (f x) [] (x ∷ [])) × (passing f xs ≡ cond (f x) (x ∷ []) [])
  turned_by x [] e = let z : ◌≡◌ {A = ℕ} 0 1 = cc in absurd (omega arith)
  turned_by x (y ∷ ys) e = let z : y ≡ x = cc in rw z (refl, refl)

  turned_none : (xs : List T) → None ≡ oldest xs → (turned f xs ≡ xs) × (passing f xs ≡ [])
  turned_none [] e = (refl, refl)
  turned_none (y ∷ ys) e = let z : ◌≡◌ {A = ℕ} 0 1 = cc in absurd (omega arith)

  -- nothing there
  pub turn_none : ReadsOldest m q None → Turns f m q o m q o
  turn_none l qs xss os k w i =
      let i2 : Is (o ∷ qs) (suc k) q = let h = i.0 in (omega arith, i.1) in
      let t = turned_none (list xss k) (l (o ∷ qs) (os ∷ xss) (suc k) w i2) in
      (rw (t.0, t.1, append-nil os, set_same qs k q i, set-get_or xss k []) w, refl)

  module _ (x : T) (l : ReadsOldest m q (Some x)) where
    -- it passes, and goes out
    pub turn_out : f x ≡ true → (m' : Mem T) (q' o' : Queue) (r : Bool) → Moves m q o m' q' o' r → Turns f m q o m' q' o'
    turn_out fx m' q' o' r s qs xss os k w i =
        let i2 : Is (o ∷ qs) (suc k) q = let h = i.0 in (omega arith, i.1) in
        let e = l (o ∷ qs) (os ∷ xss) (suc k) w i2 in
        let a = s (o ∷ qs) (os ∷ xss) (suc k) 0 w i2 (omega arith, refl) (λ z. omega arith) in
        let t = turned_by x (list xss k) e in
        let b : Keeps m' (o' ∷ set qs k q') (push os x ∷ put xss k (rest (list xss k))) = rw (← e) at a.1 in
        (rw (t.0, t.1, fx, append-nil (rest (list xss k))) b, a.2)

    -- it does not, and goes to the back of its own queue, by way of a queue of its own
    pub turn_back : f x ≡ false → (m' m'' : Mem T) (a q' a' q'' a'' : Queue) → a ≡ empty → (r t : Bool) → Moves m q a m' q' a' r → Moves m' a' q' m'' a'' q'' t → Turns f m q o m'' q'' o
    turn_back fx m' m'' a q' a' q'' a'' ea r u s s2 qs xss os k w i =
        let i2 : Is (o ∷ qs) (suc k) q = let h = i.0 in (omega arith, i.1) in
        let e = l (o ∷ qs) (os ∷ xss) (suc k) w i2 in
        let i3 : Is (a ∷ (o ∷ qs)) (suc (suc k)) q = let h = i.0 in (omega arith, i.1) in
        let w1 : Keeps m (a ∷ (o ∷ qs)) ([] ∷ (os ∷ xss)) = rw ea (keeps_front m (o ∷ qs) (os ∷ xss) w) in
        let b = s (a ∷ (o ∷ qs)) ([] ∷ (os ∷ xss)) (suc (suc k)) 0 w1 i3 (omega arith, refl) (λ z. omega arith) in
        let b1 : Keeps m' (a' ∷ (o ∷ set qs k q')) ((x ∷ []) ∷ (os ∷ put xss k (rest (list xss k)))) = rw (← e) at b.1 in
        let i4 : Is (a' ∷ (o ∷ set qs k q')) (suc (suc k)) q' = let h = i.0 in (simp length-set (omega arith), get_or-set_same qs k q' empty i.0) in
        let n = s2 (a' ∷ (o ∷ set qs k q')) ((x ∷ []) ∷ (os ∷ put xss k (rest (list xss k)))) 0 (suc (suc k)) b1 (omega arith, refl) i4 (λ z. omega arith) in
        let sm = keeps_same m (o ∷ qs) (os ∷ xss) w in let hk = i.0 in
        let lk : k < length xss = omega arith in
        let here : list (put xss k (rest (list xss k))) k ≡ rest (list xss k) = get_or-set_same xss k (rest (list xss k)) [] lk in
        let n2 : Keeps m'' (a'' ∷ (o ∷ set (set qs k q') k q'')) ([] ∷ (os ∷ put (put xss k (rest (list xss k))) k (push (list (put xss k (rest (list xss k))) k) x))) = n.1 in
        let n3 = keeps_less m'' a'' _ _ n2 in
        let t = turned_by x (list xss k) e in
        (rw (t.0, t.1, fx, append-nil os) (rw (here, set-set, set-set) at n3), n.2 ∙ b.2)

module _ {T : Type 0} (f : T → Bool) where
  -- the list after i turns
  abbrev after : ℕ → List T → List T
  after i xs = drop i xs ++ without f (take i xs)

  flip : (t : Bool) (xs ys : List T) → cond t xs ys ≡ cond (not t) ys xs
  flip true xs ys = refl
  flip false xs ys = refl

  after_more : (i : ℕ) (xs : List T) → i < length xs →
      (turned f (after i xs) ≡ after (i + 1) xs) × (filter f (take i xs) ++ passing f (after i xs) ≡ filter f (take (i + 1) xs))
  after_more i [] h = absurd (omega arith)
  after_more i (y ∷ ys) h =
      let x = get_or (y ∷ ys) i y in
      let d = drop (i + 1) (y ∷ ys) in let w = without f (take i (y ∷ ys)) in
      rw (drop_more (y ∷ ys) i y h) (
        rw (filter_more (λ z. not (f z)) (y ∷ ys) i y h) (append_assoc d w (cond (f x) [] (x ∷ [])) ∙ ap (λ (u : List T). d ++ (w ++ u)) (flip (f x) [] (x ∷ []))),
        sym (filter_more f (y ∷ ys) i y h),
      )

  module _ (m : Mem T) (q o : Queue) where
    -- no turn
    pub sift_none : Sifts f 0 m q o m q o
    sift_none qs xss os k w i = (rw (append-nil (list xss k), append-nil os, set_same qs k q i, set-get_or xss k []) w, refl)

    -- one turn more
    pub sift_more : (n : ℕ) (m' : Mem T) (q' o' : Queue) (m'' : Mem T) (q'' o'' : Queue) → n < q.len →
        Sifts f n m q o m' q' o' → Turns f m' q' o' m'' q'' o'' → Sifts f (n + 1) m q o m'' q'' o''
    sift_more n m' q' o' m'' q'' o'' lt s t qs xss os k w i =
        let a = s qs xss os k w i in
        let i2 : Is (o ∷ qs) (suc k) q = let h = i.0 in (omega arith, i.1) in
        let ln = keeps_len m (o ∷ qs) (os ∷ xss) (suc k) q w i2 in
        let sm = keeps_same m (o ∷ qs) (os ∷ xss) w in let hk = i.0 in
        let lk : k < length xss = omega arith in
        let xs = list xss k in
        let b = t (set qs k q') (put xss k (after n xs)) (os ++ filter f (take n xs)) k a.0 (is_here qs k q q' i) in
        let here : list (put xss k (after n xs)) k ≡ after n xs = get_or-set_same xss k (after n xs) [] lk in
        let c = after_more n xs (omega arith) in
        (rw (← c.1, ← append_assoc) (rw (here, set-set, set-set, c.0) at b.0), b.1 ∙ a.1)

    -- all turns
    -- all turns
    pub sift_all : (n k : ℕ) (m' : Mem T) (q' o' : Queue) → n ≡ k → Sifts f n m q o m' q' o' → Sifts f k m q o m' q' o'
    sift_all n k m' q' o' e s = rw (← e) s

    pub sifted : (n : ℕ) (m' : Mem T) (q' o' : Queue) → o ≡ empty → q.len ≤ n → Sifts f n m q o m' q' o' → TakesOut f m q m' q' o'
    sifted n m' q' o' eo le s qs xss k w i =
        let w2 : Keeps m (o ∷ qs) ([] ∷ xss) = rw eo (keeps_front m qs xss w) in
        let a = s qs xss [] k w2 i in
        let ln = keeps_len m qs xss k q w i in
        let la : length (list xss k) ≤ n = omega arith in
        (rw (drop_all n (list xss k) la, take_all n (list xss k) la) at a.0, a.1)
