-- Changes of the table of entries. Assumes nothing.
use Rattle.std.proofs.Common.{◌≡◌, ℕ, suc, ◌+◌, ◌-◌, ◌^◌, ◌<◌, ◌≤◌, ltb, List, [], ◌∷◌, ◌++◌, length, take, drop, set, sum_by, sym, refl, ap, ◌∙◌, subst, ⊎_elim, add-one, arith, length-set}
use Rattle.std.specs.List.{remove}
use borrow.Rule.Slice.PartMut.{put_mid, mid_of}
use Rattle.std.proofs.lemmas.Slice.{put_mid-rotated}
use Rattle.std.proofs.lemmas.List.{set_at, get_or-set_same, get_or-set_other, get_or_append_left, get_or_push, length_push, drop_more}
use Rattle.std.proofs.lemmas.List.Edits.{get_or-remove_below, get_or-remove_above, length-remove}
use Rattle.std.proofs.lemmas.List.Sums.{sum_by-set, sum_by-append, sum_by_push, sum_by-take-drop, sum_by-cons}
use Rattle.std.proofs.lemmas.Bool.{cases_eq, cases_lt, cond_both, ltb-true, cond-true, cond-false, lt-ltb, le-ltb}
use Rattle.stores.specs.declared.node.Node.{Node}
use Rattle.stores.specs.declared.node.Entry.{Entry}
use Rattle.stores.specs.Chains.{node, entry, blank_entry, Owned, Lasts, Apart, Full, closed, closed_up, spare, renewed, next_after, shifted_nodes, shifted_entries, jump_of, Cleared, Order}
use Rattle.stores.proofs.Chaining.{owner_entry, owned_from}
use Rattle.stores.proofs.Shifting.{Moves, moves_of, nodes_long, entries_long, node_here, node_other, number_same, live_same, walk_other}

-- an entry of the table that closed up
pub closed_below : (es : List Entry) (i n k : ℕ) → length es ≡ 257 → i < 257 → k < i → entry (closed_up es i n) k ≡ entry es k
closed_below es i n k le li l =
    let lr = length-remove es i (omega arith) in
    get_or_append_left (remove es i) (spare n ∷ []) blank_entry k (omega arith) ∙ get_or-remove_below es i blank_entry k l (omega arith)

pub closed_above : (es : List Entry) (i n k : ℕ) → length es ≡ 257 → i < 257 → i ≤ k → k < 256 → entry (closed_up es i n) k ≡ entry es (k + 1)
closed_above es i n k le li a l =
    let lr = length-remove es i (omega arith) in
    get_or_append_left (remove es i) (spare n ∷ []) blank_entry k (omega arith) ∙ get_or-remove_above es i blank_entry k a (omega arith)

pub closed_last : (es : List Entry) (i n : ℕ) → length es ≡ 257 → i < 257 → entry (closed_up es i n) 256 ≡ spare n
closed_last es i n le li =
    let lr = length-remove es i (omega arith) in
    get_or_push (remove es i) (spare n) blank_entry 256 (omega arith)

pub closed_long : (es : List Entry) (i n : ℕ) → length es ≡ 257 → i < 257 → length (closed_up es i n) ≡ 257
closed_long es i n le li =
    let lr = length-remove es i (omega arith) in
    length_push (remove es i) (spare n) ∙ omega arith

-- an entry is finished
module _ {ns : List Node} {es : List Entry} {count next : ℕ} (o : Order ns es count next) (i : ℕ) (low : 0 < i) (le : i ≤ count) where
  abbrev ds : List Entry
  ds = set es i (closed (entry es i))

  li : i < length es
  li = omega (arith, o.table, o.few)

  pub entry_closed : entry ds i ≡ closed (entry es i)
  entry_closed = get_or-set_same es i _ _ li

  pub entry_kept : (j : ℕ) → (j ≡ i → ⊥) → entry ds j ≡ entry es j
  entry_kept j h = get_or-set_other es i j _ _ h

  -- what the mark does not touch
  pub kept_of : {X : Type 0} (f : Entry → X) → f (closed (entry es i)) ≡ f (entry es i) → (j : ℕ) → f (entry ds j) ≡ f (entry es j)
  kept_of f h j =
      ⊎_elim
      (λ (e : j ≡ i). subst (λ (x : ℕ). f (entry ds x) ≡ f (entry es x)) (sym e) (ap f entry_closed ∙ h))
      (λ (ne : j ≡ i → ⊥). ap f (entry_kept j ne))
      (cases_eq j i)

  same_number : (j : ℕ) → (entry ds j).number ≡ (entry es j).number
  same_number = kept_of (λ x. x.number) refl

  same_last : (j : ℕ) → (entry ds j).last ≡ (entry es j).last
  same_last = kept_of (λ x. x.last) refl

  same_len : (j : ℕ) → (entry ds j).len ≡ (entry es j).len
  same_len = kept_of (λ x. x.len) refl

  long : length ds ≡ length es
  long = length-set es i _

  apart : Apart ns ds
  apart j k (lj, lk, h) = o.sound.apart j k (omega (arith, long), omega (arith, long), sym (same_number j) ∙ h ∙ same_number k)

  owned : Owned ns ds
  owned b l =
      let r = owner_entry o.sound b l in
      owned_from ds _ _ r.0 apart (omega (arith, long, r.1)) (same_number r.0 ∙ r.2) (omega (arith, same_len r.0, r.3))

  lasts : Lasts ns ds
  lasts j l h =
      let e = same_last j in
      let a = o.sound.lasts j (omega (arith, long)) (omega (arith, same_len j)) in
      rw e (a.0, a.1 ∙ sym (same_number j), a.2 ∙ sym (same_len j))

  full : Full ns ds
  full = omega (arith, sum_by-set (λ (e : Entry). e.len) es i (closed (entry es i)) blank_entry li, o.sound.full)

  pub finish_order : Order ns ds count next
  finish_order =
      record {
        sound = record { owned = owned; backed = o.sound.backed; jumps = o.sound.jumps; lasts = lasts; single = o.sound.single; apart = apart; full = full };
        small = o.small;
        table = long ∙ o.table;
        few = o.few;
        ends = o.ends;
        free = same_number 0 ∙ o.free;
        numbers = λ j l. subst (λ (x : ℕ). x < next) (sym (same_number j)) (o.numbers j (omega (arith, long)));
        unused = λ j h. rw (entry_kept j (omega (arith, h.0))) (o.unused j (h.0, omega (arith, long, h.1)));
        idle = o.idle;
      }

-- an empty entry goes out of use
module _ {ns : List Node} {es : List Entry} {count next : ℕ} (o : Order ns es count next) (i : ℕ) (low : 0 < i) (le : i ≤ count) (empty : (entry es i).len ≡ 0) where
  abbrev v : ℕ
  v = renewed next (entry es i).number

  abbrev ts : List Entry
  ts = closed_up es i v

  li' : i < 257
  li' = omega (arith, o.few)

  pub long_closed : length ts ≡ 257
  long_closed = closed_long es i v o.table li'

  -- each entry but the last comes from one that stays
  data Stays (j k : ℕ) : Type 0 where
    before : j < i → k ≡ j → Stays j k
    behind : i ≤ j → k ≡ j + 1 → Stays j k

  whence : (j : ℕ) → j < 256 → (k : ℕ) × Stays j k × (k < length es) × (entry ts j ≡ entry es k)
  whence j l =
      ⊎_elim
      (λ (b : j < i). (j, before b refl, omega (arith, o.table), closed_below es i v j o.table li' b))
      (λ (b : i ≤ j). (j + 1, behind b refl, omega (arith, o.table), closed_above es i v j o.table li' b l))
      (cases_lt j i)

  stays_other : (j k : ℕ) → Stays j k → k ≡ i → ⊥
  stays_other j k (before b e) h = omega arith
  stays_other j k (behind b e) h = omega arith

  stays_one : (j j' k : ℕ) → Stays j k → Stays j' k → j ≡ j'
  stays_one j j' k (before b e) (before b' e') = omega arith
  stays_one j j' k (before b e) (behind b' e') = absurd (omega arith)
  stays_one j j' k (behind b e) (before b' e') = absurd (omega arith)
  stays_one j j' k (behind b e) (behind b' e') = omega arith

  -- where an entry that stays goes
  whither : (k : ℕ) → k < length es → (k ≡ i → ⊥) → (j : ℕ) × (j < 256) × (entry ts j ≡ entry es k)
  whither k l h =
      ⊎_elim
      (λ (b : k < i). (k, omega (arith, o.few), closed_below es i v k o.table li' b))
      (λ (b : i ≤ k).
      let e : k - 1 + 1 ≡ k = omega arith in
      (k - 1, omega (arith, o.table), closed_above es i v (k - 1) o.table li' (omega arith) (omega (arith, o.table)) ∙ ap (entry es) e))
      (cases_lt k i)

  -- the new number is no other's
  new_number : (k : ℕ) → k < length es → (k ≡ i → ⊥) → (entry es k).number ≡ v → ⊥
  new_number k l h =
      cond_both (ltb next (2 ^ 32)) next (entry es i).number (λ u. (entry es k).number ≡ u → ⊥)
      (λ _ e. omega (arith, o.numbers k l))
      (λ _ e. h (o.sound.apart k i (l, omega (arith, o.table), e)))

  number_low : v < next_after next
  number_low =
      ⊎_elim
      (λ (b : next < 2 ^ 32). let t = lt-ltb next (2 ^ 32) b in rw (cond-true (ltb next (2 ^ 32)) next (entry es i).number t, cond-true (ltb next (2 ^ 32)) (next + 1) next t) (omega arith))
      (λ (b : 2 ^ 32 ≤ next). let t = le-ltb next (2 ^ 32) b in rw (cond-false (ltb next (2 ^ 32)) next (entry es i).number t, cond-false (ltb next (2 ^ 32)) (next + 1) next t) (o.numbers i (omega (arith, o.table))))
      (cases_lt next (2 ^ 32))

  next_more : next ≤ next_after next
  next_more = cond_both (ltb next (2 ^ 32)) (next + 1) next (λ u. next ≤ u) (λ _. omega arith) (λ _. omega arith)

  next_most : next_after next ≤ 2 ^ 32
  next_most = cond_both (ltb next (2 ^ 32)) (next + 1) next (λ u. u ≤ 2 ^ 32) (λ t. omega (arith, ltb-true next (2 ^ 32) t)) (λ _. o.ends)

  apart' : Apart ns ts
  apart' j k (lj, lk, h) =
      let lt = long_closed in
      let num : Entry → ℕ = λ e. e.number in
      ⊎_elim
      (λ (bj : j < 256).
      let a = whence j bj in
      ⊎_elim
      (λ (bk : k < 256).
      let c = whence k bk in
      let e : a.0 ≡ c.0 = o.sound.apart _ _ (a.2, c.2, sym (ap num a.3) ∙ h ∙ ap num c.3) in
      stays_one j k c.0 (subst (Stays j) e a.1) c.1)
      (λ (bk : 256 ≤ k).
      let ek : k ≡ 256 = omega arith in
      absurd (new_number a.0 a.2 (stays_other j a.0 a.1) (sym (ap num a.3) ∙ h ∙ ap (λ (x : ℕ). (entry ts x).number) ek ∙ ap num (closed_last es i v o.table li'))))
      (cases_lt k 256))
      (λ (bj : 256 ≤ j).
      let ej : j ≡ 256 = omega arith in
      ⊎_elim
      (λ (bk : k < 256).
      let c = whence k bk in
      absurd (new_number c.0 c.2 (stays_other k c.0 c.1) (sym (ap num c.3) ∙ sym h ∙ ap (λ (x : ℕ). (entry ts x).number) ej ∙ ap num (closed_last es i v o.table li'))))
      (λ (bk : 256 ≤ k). omega arith)
      (cases_lt k 256))
      (cases_lt j 256)

  owned' : Owned ns ts
  owned' b l =
      let r = owner_entry o.sound b l in
      let w = whither r.0 r.1 (λ e. let z : (entry es r.0).len ≡ 0 = ap (λ (x : ℕ). (entry es x).len) e ∙ empty in omega (arith, r.3)) in
      let lt = long_closed in
      owned_from ts _ _ w.0 apart' (omega (arith, w.1)) (ap (λ (x : Entry). x.number) w.2 ∙ r.2) (rw w.2 r.3)

  lasts' : Lasts ns ts
  lasts' j l h =
      let lt = long_closed in
      ⊎_elim
      (λ (b : j < 256).
      let a = whence j b in
      rw a.3 (o.sound.lasts a.0 a.2 (subst (λ (x : Entry). 0 < x.len) a.3 h)))
      (λ (b : 256 ≤ j).
      let e : j ≡ 256 = omega arith in
      let z : (entry ts j).len ≡ 0 = ap (λ (x : ℕ). (entry ts x).len) e ∙ ap (λ (x : Entry). x.len) (closed_last es i v o.table li') in
      absurd (omega arith))
      (cases_lt j 256)

  pub sum-closed : (f : Entry → ℕ) → f (entry es i) ≡ 0 → f (spare v) ≡ 0 → sum_by f ts ≡ sum_by f es
  sum-closed f z z' =
      let lx : i < length es = omega (arith, o.table) in
      let a = sum_by_push f (remove es i) (spare v) in
      let b = sum_by-append f (take i es) (drop (suc i) es) in
      let c = sum_by-take-drop f es i in
      let d : sum_by f (drop i es) ≡ sum_by f (entry es i ∷ drop (suc i) es) = ap (sum_by f) (drop_more es i blank_entry lx ∙ ap (λ (k : ℕ). entry es i ∷ drop k es) (add-one i)) in
      let e = sum_by-cons f (entry es i) (drop (suc i) es) in
      omega arith

  pub drop_order : Order ns ts (count - 1) (next_after next)
  drop_order =
      let lt = long_closed in
      record {
        sound = record { owned = owned'; backed = o.sound.backed; jumps = o.sound.jumps; lasts = lasts'; single = o.sound.single; apart = apart'; full = sum-closed (λ e. e.len) empty refl ∙ o.sound.full };
        small = o.small;
        table = long_closed;
        few = omega (arith, o.few);
        ends = next_most;
        free = ap (λ (x : Entry). x.number) (closed_below es i v 0 o.table li' low) ∙ o.free;
        numbers = λ j l.
            ⊎_elim
            (λ (b : j < 256). let a = whence j b in rw a.3 (omega (arith, o.numbers a.0 a.2, next_more)))
            (λ (b : 256 ≤ j). let e : j ≡ 256 = omega arith in rw (e, closed_last es i v o.table li') number_low)
            (cases_lt j 256);
        unused = λ j h.
            ⊎_elim
            (λ (b : j < 256). rw (closed_above es i v j o.table li' (omega (arith, h.0)) b) (o.unused (j + 1) (omega (arith, h.0), omega (arith, o.table))))
            (λ (b : 256 ≤ j). let e : j ≡ 256 = omega (arith, h.1) in rw (e, closed_last es i v o.table li') (refl, refl))
            (cases_lt j 256);
        idle = o.idle;
      }

-- one batch more
cleared_more : {ns : List Node} {es : List Entry} {ms : List Node} {ds : List Entry} (i : ℕ) → Cleared ns es i ms ds → 0 < i → Moves ms ds i 0 (jump_of ms ds i 0) →
    Cleared ns es i (shifted_nodes ms ds i 0 (jump_of ms ds i 0) 0 0) (shifted_entries ms ds i 0)
cleared_more {ms = ms} {ds} i h low mv =
    record {
      nodes = nodes_long mv 0 0 ∙ h.nodes;
      entries = entries_long mv 0 0 ∙ h.entries;
      number = λ k. number_same mv 0 0 k ∙ h.number k;
      live = λ k. live_same mv 0 0 k ∙ h.live k;
      others = λ v k a l u.
          walk_other mv 0 0 (λ c. v c (node ms c)) (λ c. v c (node (shifted_nodes ms ds i 0 (jump_of ms ds i 0) 0 0) c)) (λ c lc nc. ap (v c) (node_other mv 0 0 c nc)) k (omega (arith, h.entries)) u (omega arith)
          ∙ h.others v k a l u;
      words = λ c.
          ⊎_elim
          (λ (e : c ≡ (entry ds i).last).
          let w = ap (node (shifted_nodes ms ds i 0 (jump_of ms ds i 0) 0 0)) e ∙ node_here mv 0 0 in
          rw w (omega arith, omega arith))
          (λ (u : c ≡ (entry ds i).last → ⊥). rw (node_other mv 0 0 c u) (h.words c))
          (cases_eq c (entry ds i).last);
    }

-- the same, where the code's words stand for the results
pub cleared_more_is : {ns : List Node} {es : List Entry} {ms : List Node} {ds : List Entry} {count next : ℕ} (i : ℕ) → Cleared ns es i ms ds → Order ms ds count next → 0 < i → i ≤ count → 0 < (entry ds i).len →
    (ps : List Node) (qs : List Entry) → ps ≡ shifted_nodes ms ds i 0 (jump_of ms ds i 0) 0 0 → qs ≡ shifted_entries ms ds i 0 → Cleared ns es i ps qs
cleared_more_is {ns = ns} {es} {ms} {ds} i h o low le some ps qs e f =
    subst (λ (x : List Node). Cleared ns es i x qs) (sym e)
    (subst (λ (x : List Entry). Cleared ns es i (shifted_nodes ms ds i 0 (jump_of ms ds i 0) 0 0) x) (sym f) (cleared_more i h low (moves_of o i 0 le (omega arith) (λ u. omega arith) some)))

pub drop_order_is : {ns : List Node} {es : List Entry} {count next : ℕ} (o : Order ns es count next) (i : ℕ) → 0 < i → i ≤ count → (entry es i).len ≡ 0 →
    (ts : List Entry) (m : ℕ) → ts ≡ closed_up es i (renewed next (entry es i).number) → m ≡ next_after next → Order ns ts (count - 1) m
drop_order_is {ns = ns} {es} {count} {next} o i low le empty ts m e g =
    subst (λ (x : ℕ). Order ns ts (count - 1) x) (sym g) (subst (λ (x : List Entry). Order ns x (count - 1) (next_after next)) (sym e) (drop_order o i low le empty))

-- the free nodes are no file's
pub finish_free : (es : List Entry) (i : ℕ) → 0 < i → (entry (set es i (closed (entry es i))) 0).len ≡ (entry es 0).len
finish_free es i lo = ap (λ (e : Entry). e.len) (get_or-set_other es i 0 (closed (entry es i)) blank_entry (omega arith))

-- the entries from i on turn by one, and the last becomes an entry for a file to come
pub closes_up : {ns : List Node} {es : List Entry} {count next : ℕ} (o : Order ns es count next) (i : ℕ) → 0 < i → i ≤ count → (ys : List Entry) → ys ≡ drop 1 (mid_of i (257 - i) es) ++ take 1 (mid_of i (257 - i) es) →
    (e : Entry) {n m : ℕ} → e ≡ spare n → n ≡ m → set (put_mid i (257 - i) es ys) 256 e ≡ closed_up es i m
closes_up {es = es} o i low le ys f e {n} {m} g h =
    let lr = length-remove es i (omega (arith, o.table, o.few)) in
    ap (λ (x : List Entry). set x 256 e) (put_mid-rotated i (257 - i) es ys blank_entry (omega (arith, o.table, o.few)) (omega (arith, o.table)) f)
    ∙ ap (set (remove es i ++ entry es i ∷ []) 256) (g ∙ ap spare h) ∙ set_at (remove es i) (entry es i) [] (spare m) 256 (omega (arith, o.table))
