-- Naming entries, and letting elements go, by the bank's laws alone. Assumes nothing.
use Rattle.std.proofs.Common.{◌≡◌, ℕ, ◌+◌, ◌<◌, ◌≤◌, List, [], ◌∷◌, ◌++◌, length, get_or, take, drop, set, Some, None, Option, sym, refl, ap, ◌∙◌, append_assoc, ⊎_elim, arith}
use lib.ListN.{length-map}
use Rattle.std.proofs.lemmas.List.{get_or-set_same, set-get_or, set-set, drop_all, take_all, drop_more, take_more, map_push, set_at, length-take-le}
use Rattle.std.proofs.lemmas.Bool.{cases_lt}
use Rattle.bank.specs.declared.Queue.{Queue}
use Rattle.bank.specs.Cells.{empty}
use Rattle.bank.specs.Lists.{oldest, rest, list, put}
use Rattle.bank.specs.Banks.{Mem, Takes}
use Rattle.bank.proofs.Laws.{is_here, keeps_same, keeps_len}
use Rattle.distributor_channels.specs.declared.Entry.{Entry}
use Rattle.distributor_channels.specs.Meaning.{wakers}
use Rattle.distributor_channels.specs.Naming.{NamesSome, Names, Drops, Empties}

pub some_none : (m : Mem Entry) (q : Queue) (w : List ℕ) → NamesSome 0 m q w m q w
some_none m q w qs xss k r h l =
    let eq : set qs k q ≡ qs = ap (λ (u : Queue). set qs k u) (sym h.1) ∙ set-get_or qs k empty in
    (omega arith, rw (eq, set-get_or xss k []) r, refl)

-- what is left has an oldest
some_left : {T : Type 0} (i : ℕ) (xs : List T) (x : T) → Some x ≡ oldest (drop i xs) → i < length xs
some_left i xs x e =
    ⊎_elim
    (λ (h : i < length xs). h)
    (λ (h : length xs ≤ i). let u : Some x ≡ None = e ∙ ap oldest (drop_all i xs h) in let z : ◌≡◌ {A = ℕ} 0 1 = cc in absurd (omega arith))
    (cases_lt i (length xs))

-- or it has none
none_left : {T : Type 0} (i : ℕ) (xs : List T) → None ≡ oldest (drop i xs) → i ≤ length xs → length xs ≡ i
none_left i [] e h = omega arith
none_left i (x ∷ xs) e h =
    ⊎_elim
    (λ (l : i < length (x ∷ xs)). let u : None ≡ Some (get_or (x ∷ xs) i x) = e ∙ ap oldest (drop_more (x ∷ xs) i x l) in let z : ◌≡◌ {A = ℕ} 0 1 = cc in absurd (omega arith))
    (λ (l : length (x ∷ xs) ≤ i). omega arith)
    (cases_lt i (length (x ∷ xs)))

-- one more is noted
noted_more : (i : ℕ) (xs : List Entry) (w : List ℕ) (e : Entry) → Some e ≡ oldest (drop i xs) → i < length xs → length xs ≤ length w →
    set (wakers (take i xs) ++ drop i w) i e.waker ≡ wakers (take (i + 1) xs) ++ drop (i + 1) w
noted_more i [] w e o h l = absurd (omega arith)
noted_more i (x ∷ xs) w e o h l =
    let ys = x ∷ xs in
    let n : length (wakers (take i ys)) ≡ i = length-map (take i ys) (λ e. e.waker) ∙ length-take-le i ys (omega arith) in
    let lw : i < length w = omega arith in
    let u : Some e ≡ Some (get_or ys i x) = o ∙ ap oldest (drop_more ys i x h) in
    let is : e ≡ get_or ys i x = cc in
    rw (is, take_more ys i x h, drop_more w i 0 lw, map_push, append_assoc)
    (set_at (wakers (take i ys)) (get_or w i 0) (drop (i + 1) w) (get_or ys i x).waker i n)

rest-drop : {T : Type 0} (i : ℕ) (xs : List T) → i < length xs → rest (drop i xs) ≡ drop (i + 1) xs
rest-drop i [] h = absurd (omega arith)
rest-drop i (x ∷ xs) h = rw (drop_more (x ∷ xs) i x h) refl

module _ (i : ℕ) (m : Mem Entry) (q : Queue) (w : List ℕ) (m' : Mem Entry) (q' : Queue) (w' : List ℕ) (s : NamesSome i m q w m' q' w') where
  module _ (m'' : Mem Entry) (q'' : Queue) where
    pub some_more : (e : Entry) → Takes m' q' m'' q'' (Some e) → NamesSome (i + 1) m q w m'' q'' (set w' i e.waker)
    some_more e t qs xss k r h l =
        let a = s qs xss k r h l in
        let sm = keeps_same m qs xss r in let hk = h.0 in
        let kx : k < length xss = omega arith in
        let b = t (set qs k q') (put xss k (drop i (list xss k))) k a.1 (is_here qs k q q' h) in
        let here : list (put xss k (drop i (list xss k))) k ≡ drop i (list xss k) = get_or-set_same xss k (drop i (list xss k)) [] kx in
        let o : Some e ≡ oldest (drop i (list xss k)) = rw here at b.0 in
        let li = some_left i (list xss k) e o in (
          omega arith,
          rw (here, set-set, set-set, rest-drop i (list xss k) li) at b.1,
          ap (λ v. set v i e.waker) a.2 ∙ noted_more i (list xss k) w e o li l,
        )

    -- no entry is left
    pub names_all : (n : ℕ) → n ≡ q.len → Takes m' q' m'' q'' None → Names m q w m'' q'' w' n
    names_all n en t qs xss k r h l =
        let a = s qs xss k r h l in
        let ln = keeps_len m qs xss k q r h in
        let sm = keeps_same m qs xss r in let hk = h.0 in
        let kx : k < length xss = omega arith in
        let b = t (set qs k q') (put xss k (drop i (list xss k))) k a.1 (is_here qs k q q' h) in
        let here : list (put xss k (drop i (list xss k))) k ≡ drop i (list xss k) = get_or-set_same xss k (drop i (list xss k)) [] kx in
        let o : None ≡ oldest (drop i (list xss k)) = rw here at b.0 in
        let ni = none_left i (list xss k) o a.0 in
        let nil : drop i (list xss k) ≡ [] = drop_all i (list xss k) (omega arith) in
        let el : length (wakers (list xss k)) ≡ i = length-map (list xss k) (λ x. x.waker) ∙ ni in
        (rw (here, set-set, set-set, nil) at b.1, rw el (rw (take_all i (list xss k) (omega arith)) at a.2), omega arith)

  -- the woken list is at its end
  pub names_last : (n : ℕ) → n ≡ q.len → i ≡ length w → Names m q w m' q' w' n
  names_last n en e qs xss k r h l =
      let a = s qs xss k r h l in
      let ln = keeps_len m qs xss k q r h in
      let le = a.0 in
      let li : length (list xss k) ≤ i = omega arith in
      let el : length (wakers (list xss k)) ≡ i = length-map (list xss k) (λ x. x.waker) ∙ omega arith in
      (rw (drop_all i (list xss k) li) at a.1, rw el (rw (take_all i (list xss k) li) at a.2), omega arith)

module _ {T : Type 0} where
  pub drops_none : (m : Mem T) (q : Queue) → Drops 0 m q m q
  drops_none m q qs xss k r h =
      let eq : set qs k q ≡ qs = ap (λ (u : Queue). set qs k u) (sym h.1) ∙ set-get_or qs k empty in
      rw (eq, set-get_or xss k []) r

  pub drops_more : (i : ℕ) (m : Mem T) (q : Queue) (m' : Mem T) (q' : Queue) (m'' : Mem T) (q'' : Queue) (o : Option T) → i < q.len → Drops i m q m' q' → Takes m' q' m'' q'' o → Drops (i + 1) m q m'' q''
  drops_more i m q m' q' m'' q'' o lt s t qs xss k r h =
      let a = s qs xss k r h in
      let ln = keeps_len m qs xss k q r h in let sm = keeps_same m qs xss r in let hk = h.0 in
      let li : i < length (list xss k) = omega arith in
      let kx : k < length xss = omega arith in
      let b = t (set qs k q') (put xss k (drop i (list xss k))) k a (is_here qs k q q' h) in
      let here : list (put xss k (drop i (list xss k))) k ≡ drop i (list xss k) = get_or-set_same xss k (drop i (list xss k)) [] kx in
      rw (here, set-set, set-set, rest-drop i (list xss k) li) at b.1

  pub drops_all : (i : ℕ) (m : Mem T) (q : Queue) (m' : Mem T) (q' : Queue) → i ≡ q.len → Drops i m q m' q' → Empties m q m' q'
  drops_all i m q m' q' e s qs xss k r h =
      let ln = keeps_len m qs xss k q r h in
      let li : length (list xss k) ≤ i = omega arith in
      rw (drop_all i (list xss k) li) at (s qs xss k r h)
