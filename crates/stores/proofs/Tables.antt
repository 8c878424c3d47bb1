-- Files by number, from the entries in use. Assumes nothing.
use Rattle.std.proofs.Common.{◌≡◌, ℕ, zero, suc, ◌+◌, ◌-◌, ◌^◌, ◌<◌, ◌≤◌, Bool, true, List, [], ◌∷◌, ◌++◌, map, length, get_or, take, drop, set, Some, None, Option, ◌==◌, eqb, ◌⊎◌, inl, inr, ltb, sum_by, sym, refl, ap, ◌∙◌, subst, ⊎_elim, add-one, arith, length-drop, length-set, length-take}
use mathlib.Core.Path.{fun_ext}
use Rattle.std.specs.List.{remove, position, position_or_len, slice_range}
use Rattle.std.specs.Option.{option_map}
use Rattle.std.proofs.lemmas.List.{get_or-take, get_or-drop, get_or-map, length-map, ext_get_or, get_or-set_same, get_or-set_other, length_push, take_more, drop_more, map_push}
use Rattle.std.proofs.lemmas.List.Edits.{get_or-remove_below, get_or-remove_above, length-remove}
use Rattle.std.proofs.lemmas.List.Sums.{sum_by-set, sum_by_push, sum_by-append, sum_by-take-drop, sum_by-cons, sum_by_more, passes_at_first, fails_before_first}
use Rattle.std.proofs.lemmas.Bool.{cases_eq, cases_lt, eq-eqb, ne_eqb, eqb-true, cond-true, cond-false, lt-ltb, le-ltb, true≢false}
use Rattle.stores.specs.declared.node.Node.{Node}
use Rattle.stores.specs.declared.node.Entry.{Entry}
use Rattle.resources.specs.Files.{File, Files, put, fresh}
use Rattle.stores.specs.Chains.{node, entry, blank_entry, held, walk, closed_up, Sought, Order}
use Rattle.stores.specs.Filed.{in_use, numbers_of, file_of, files_of, files_in, load_of}
use Rattle.stores.proofs.Chaining.{length-walk}
use Rattle.stores.proofs.Entries.{closed_below, closed_above}
use Rattle.stores.proofs.Lookups.{Hit, Missing, lookup_hit, lookup_missing, files_in_is}

hit_from : (ks : List ℕ) (j n : ℕ) → j < length ks → get_or ks j 0 ≡ n → ((i : ℕ) → i < j → get_or ks i 0 ≡ n → ⊥) → Hit n ks j
hit_from [] j n l e h = absurd (omega arith)
hit_from (k ∷ ks) zero n l e h = eq-eqb n k (sym e)
hit_from (k ∷ ks) (suc j) n l e h = (ne_eqb n k (λ u. h 0 (omega arith) (sym u)), hit_from ks j n (omega arith) e (λ i li. h (suc i) (omega arith)))

missing_from : (ks : List ℕ) (n : ℕ) → ((i : ℕ) → i < length ks → get_or ks i 0 ≡ n → ⊥) → Missing n ks
missing_from [] n h = tt
missing_from (k ∷ ks) n h = (ne_eqb n k (λ u. h 0 (omega arith) (sym u)), missing_from ks n (λ i l. h (suc i) (omega arith)))

-- files that differ at one number alone
put_ext : (fs gs : Files) (n : ℕ) (f : Option File) → gs n ≡ f → ((m : ℕ) → (m ≡ n → ⊥) → gs m ≡ fs m) → gs ≡ put fs n f
put_ext fs gs n f here there = fun_ext (λ m.
    ⊎_elim
    (λ (u : m ≡ n). ap gs u ∙ here ∙ sym (cond-true (eqb m n) f (fs m) (eq-eqb m n u)))
    (λ (u : m ≡ n → ⊥). there m u ∙ sym (cond-false (eqb m n) f (fs m) (ne_eqb m n u)))
    (cases_eq m n))

-- an entry in use has the number, or none has
pub present : (es : List Entry) (n k : ℕ) → ((i : ℕ) × (0 < i) × (i ≤ k) × ((entry es i).number ≡ n)) ⊎ ((j : ℕ) → 0 < j → j ≤ k → (entry es j).number ≡ n → ⊥)
present es n zero = inr (λ j lo le e. omega arith)
present es n (suc k) =
    ⊎_elim
    (λ (e : (entry es (suc k)).number ≡ n). inl (suc k, omega arith, omega arith, e))
    (λ (h : (entry es (suc k)).number ≡ n → ⊥).
    ⊎_elim
    (λ r. inl (r.0, r.1, omega (arith, r.2), r.3))
    (λ (g : (j : ℕ) → 0 < j → j ≤ k → (entry es j).number ≡ n → ⊥).
    inr (λ j lo le e. ⊎_elim (λ (u : j ≡ suc k). h (ap (λ (x : ℕ). (entry es x).number) (sym u) ∙ e)) (λ (u : j ≡ suc k → ⊥). g j lo (omega arith) e) (cases_eq j (suc k))))
    (present es n k))
    (cases_eq (entry es (suc k)).number n)

module _ {ns : List Node} {es : List Entry} {count next : ℕ} (o : Order ns es count next) where
  pub in_use_long : length (in_use es count) ≡ count
  in_use_long = length-take count (drop 1 es) ∙ omega (arith, length-drop 1 es, o.table, o.few)

  pub in_use_at : (j : ℕ) → j < count → get_or (in_use es count) j blank_entry ≡ entry es (j + 1)
  in_use_at j l = get_or-take count (drop 1 es) j blank_entry l ∙ get_or-drop 1 es j blank_entry ∙ ap (entry es) (omega arith)

  pub numbers_long : length (numbers_of es count) ≡ count
  numbers_long = length-map (in_use es count) (λ e. e.number) ∙ in_use_long

  pub numbers_at : (j : ℕ) → j < count → get_or (numbers_of es count) j 0 ≡ (entry es (j + 1)).number
  numbers_at j l = get_or-map (λ e. e.number) (in_use es count) j blank_entry 0 (omega (arith, in_use_long)) ∙ ap (λ (e : Entry). e.number) (in_use_at j l)

  -- the number of the entry i comes first at i - 1
  pub hit : (i : ℕ) → 0 < i → i ≤ count → Hit (entry es i).number (numbers_of es count) (i - 1)
  hit i lo le =
      let e : i - 1 + 1 ≡ i = omega arith in
      hit_from (numbers_of es count) (i - 1) (entry es i).number (omega (arith, numbers_long)) (numbers_at (i - 1) (omega arith) ∙ ap (λ (k : ℕ). (entry es k).number) e)
      (λ j lj h.
      let u : j + 1 ≡ i = o.sound.apart (j + 1) i (omega (arith, o.table, o.few), omega (arith, o.table, o.few), sym (numbers_at j (omega arith)) ∙ h) in
      omega arith)

  pub missing : (n : ℕ) → ((j : ℕ) → 0 < j → j ≤ count → (entry es j).number ≡ n → ⊥) → Missing n (numbers_of es count)
  missing n h = missing_from (numbers_of es count) n (λ j l e. let lj : j < count = omega (arith, numbers_long) in h (j + 1) (omega arith) (omega arith) (sym (numbers_at j lj) ∙ e))

  module _ (v : ℕ → Node → List ℕ) where
    pub files_long : length (files_of ns v es count) ≡ count
    files_long = length-map (in_use es count) (file_of ns v) ∙ in_use_long

    pub files_at : (j : ℕ) (d : File) → j < count → get_or (files_of ns v es count) j d ≡ file_of ns v (entry es (j + 1))
    files_at j d l = get_or-map (file_of ns v) (in_use es count) j blank_entry d (omega (arith, in_use_long)) ∙ ap (file_of ns v) (in_use_at j l)

    pub find_at : (i : ℕ) → 0 < i → i ≤ count → files_in ns v es count (entry es i).number ≡ Some (file_of ns v (entry es i))
    find_at i lo le =
        let e : i - 1 + 1 ≡ i = omega arith in
        files_in_is ns v es count (entry es i).number
        ∙ lookup_hit (entry es i).number fresh (numbers_of es count) (files_of ns v es count) (i - 1) (hit i lo le) (files_long ∙ sym numbers_long)
        ∙ ap Some (files_at (i - 1) fresh (omega arith) ∙ ap (λ (k : ℕ). file_of ns v (entry es k)) e)

    pub file_at : (i n : ℕ) → 0 < i → i ≤ count → (entry es i).number ≡ n → files_in ns v es count n ≡ Some (file_of ns v (entry es i))
    file_at i n lo le e = ap (files_in ns v es count) (sym e) ∙ find_at i lo le

    pub find_none : (n : ℕ) → ((j : ℕ) → 0 < j → j ≤ count → (entry es j).number ≡ n → ⊥) → files_in ns v es count n ≡ None
    find_none n h = files_in_is ns v es count n ∙ lookup_missing n (numbers_of es count) (files_of ns v es count) (missing n h)

-- one file changes
module _ {ns : List Node} {es : List Entry} {count next : ℕ} (o : Order ns es count next) (v : ℕ → Node → List ℕ)
    {ms : List Node} {ds : List Entry} {next' : ℕ} (o' : Order ms ds count next') (v' : ℕ → Node → List ℕ)
    (number : (j : ℕ) → (entry ds j).number ≡ (entry es j).number) (i : ℕ) (lo : 0 < i) (le : i ≤ count)
    (others : (j : ℕ) → 0 < j → j ≤ count → (j ≡ i → ⊥) → file_of ms v' (entry ds j) ≡ file_of ns v (entry es j)) where
  pub files_set : files_of ms v' ds count ≡ set (files_of ns v es count) (i - 1) (file_of ms v' (entry ds i))
  files_set =
      let long = files_long o v in
      let long' = files_long o' v' in
      let f = file_of ms v' (entry ds i) in
      ext_get_or fresh (files_of ms v' ds count) (set (files_of ns v es count) (i - 1) f) (long' ∙ sym (length-set (files_of ns v es count) (i - 1) f ∙ long))
      (λ j l.
      let lj : j < count = omega arith in
      files_at o' v' j fresh lj ∙
      ⊎_elim
      (λ (e : j ≡ i - 1).
      let u : j + 1 ≡ i = omega arith in
      ap (λ (k : ℕ). file_of ms v' (entry ds k)) u ∙ sym (ap (λ (k : ℕ). get_or (set (files_of ns v es count) (i - 1) f) k fresh) e ∙ get_or-set_same (files_of ns v es count) (i - 1) f fresh (omega arith)))
      (λ (h : j ≡ i - 1 → ⊥).
      others (j + 1) (omega arith) (omega arith) (λ u. h (omega arith)) ∙ sym (get_or-set_other (files_of ns v es count) (i - 1) j f fresh h ∙ files_at o v j fresh lj))
      (cases_eq j (i - 1)))

  pub files_put : files_in ms v' ds count ≡ put (files_in ns v es count) (entry es i).number (Some (file_of ms v' (entry ds i)))
  files_put =
      put_ext (files_in ns v es count) (files_in ms v' ds count) (entry es i).number _ (file_at o' v' i _ lo le (number i))
      (λ m ne.
      ⊎_elim
      (λ r. file_at o' v' r.0 m r.1 r.2 (number r.0 ∙ r.3) ∙ ap Some (others r.0 r.1 r.2 (λ u. ne (sym r.3 ∙ ap (λ (x : ℕ). (entry es x).number) u))) ∙ sym (file_at o v r.0 m r.1 r.2 r.3))
      (λ g. find_none o' v' m (λ j a b e. g j a b (sym (number j) ∙ e)) ∙ sym (find_none o v m g))
      (present es m count))

  pub load_files : (load_of (files_of ms v' ds count)).files ≡ (load_of (files_of ns v es count)).files
  load_files = files_long o' v' ∙ sym (files_long o v)

  pub load_batches : (load_of (files_of ms v' ds count)).batches + length (held ns v (entry es i)) ≡ (load_of (files_of ns v es count)).batches + length (held ms v' (entry ds i))
  load_batches =
      let g : File → ℕ = λ f. length f.batches in
      let a = sum_by-set g (files_of ns v es count) (i - 1) (file_of ms v' (entry ds i)) fresh (omega (arith, files_long o v)) in
      let e : i - 1 + 1 ≡ i = omega arith in
      let b : g (get_or (files_of ns v es count) (i - 1) fresh) ≡ length (held ns v (entry es i)) = ap g (files_at o v (i - 1) fresh (omega arith) ∙ ap (λ (k : ℕ). file_of ns v (entry es k)) e) in
      omega (arith, ap (sum_by g) files_set)

-- one file more
module _ {ns : List Node} {es : List Entry} {count next : ℕ} (o : Order ns es count next) (v : ℕ → Node → List ℕ) (less : count < 256) where
  in_use_more : in_use es (count + 1) ≡ in_use es count ++ entry es (count + 1) ∷ []
  in_use_more =
      take_more (drop 1 es) count blank_entry (omega (arith, length-drop 1 es, o.table))
      ∙ ap (λ (e : Entry). in_use es count ++ e ∷ []) (get_or-drop 1 es count blank_entry ∙ ap (entry es) (omega arith))

  -- an entry that is not in use is an empty open file
  new_file_lem : file_of ns v (entry es (count + 1)) ≡ fresh
  new_file_lem =
      let u = o.unused (count + 1) (omega arith, omega (arith, o.table)) in
      ap (λ (b : Bool). record { live = b; batches = held ns v (entry es (count + 1)) }) u.1
      ∙ ap (λ (n : ℕ). record { live = true; batches = walk (λ c. (node ns c).back) (λ c. v c (node ns c)) (entry es (count + 1)).last n }) u.0

  pub files_push : files_of ns v es (count + 1) ≡ files_of ns v es count ++ fresh ∷ []
  files_push = ap (map (file_of ns v)) in_use_more ∙ map_push (file_of ns v) (in_use es count) (entry es (count + 1)) ∙ ap (λ (f : File). files_of ns v es count ++ f ∷ []) new_file_lem

  unused_number : (j : ℕ) → 0 < j → j ≤ count → (entry es j).number ≡ (entry es (count + 1)).number → ⊥
  unused_number j lo le h =
      let e : j ≡ count + 1 = o.sound.apart j (count + 1) (omega (arith, o.table), omega (arith, o.table), h) in
      omega arith

  pub new_none : files_in ns v es count (entry es (count + 1)).number ≡ None
  new_none = find_none o v (entry es (count + 1)).number unused_number

  pub new_above : 0 < (entry es (count + 1)).number
  new_above =
      let z = o.free in
      ⊎_elim
      (λ (h : 0 < (entry es (count + 1)).number). h)
      (λ (h : (entry es (count + 1)).number ≤ 0).
      let e : count + 1 ≡ 0 = o.sound.apart (count + 1) 0 (omega (arith, o.table), omega (arith, o.table), omega arith) in
      absurd (omega arith))
      (cases_lt 0 (entry es (count + 1)).number)

  pub new_below : (entry es (count + 1)).number < 2 ^ 32
  new_below = omega (arith, o.numbers (count + 1) (omega (arith, o.table)), o.ends)

  more : Order ns es (count + 1) next
  more = record {
    sound = o.sound;
    small = o.small;
    table = o.table;
    few = omega arith;
    ends = o.ends;
    free = o.free;
    numbers = o.numbers;
    unused = λ i h. o.unused i (omega (arith, h.0), h.1);
    idle = o.idle;
  }

  pub files_create : files_in ns v es (count + 1) ≡ put (files_in ns v es count) (entry es (count + 1)).number (Some fresh)
  files_create =
      put_ext (files_in ns v es count) (files_in ns v es (count + 1)) (entry es (count + 1)).number _ (file_at more v (count + 1) _ (omega arith) (omega arith) refl ∙ ap Some new_file_lem)
      (λ m ne.
      ⊎_elim
      (λ r. file_at more v r.0 m r.1 (omega (arith, r.2)) r.3 ∙ sym (file_at o v r.0 m r.1 r.2 r.3))
      (λ g.
      find_none more v m (λ j a b e. ⊎_elim (λ (u : j ≡ count + 1). ne (sym e ∙ ap (λ (x : ℕ). (entry es x).number) u)) (λ (u : j ≡ count + 1 → ⊥). g j a (omega arith) e) (cases_eq j (count + 1)))
      ∙ sym (find_none o v m g))
      (present es m count))

  pub load_create : load_of (files_of ns v es (count + 1)) ≡ record { files = (load_of (files_of ns v es count)).files + 1; batches = (load_of (files_of ns v es count)).batches }
  load_create =
      let g : File → ℕ = λ f. length f.batches in
      ap load_of files_push
      ∙ ap (λ (n : ℕ). record { files = n; batches = sum_by g (files_of ns v es count ++ fresh ∷ []) }) (length_push (files_of ns v es count) fresh)
      ∙ ap (λ (n : ℕ). record { files = length (files_of ns v es count) + 1; batches = n }) (sum_by_push g (files_of ns v es count) fresh ∙ omega arith)

-- the entry i goes
module _ {ns : List Node} {es : List Entry} {count next : ℕ} (o : Order ns es count next) (v : ℕ → Node → List ℕ) (i n : ℕ) {next' : ℕ} (lo : 0 < i) (le : i ≤ count)
    (o' : Order ns (closed_up es i n) (count - 1) next') where
  li : i < 257
  li = omega (arith, o.few)

  at_below : (j : ℕ) → j < i - 1 → entry (closed_up es i n) (j + 1) ≡ entry es (j + 1)
  at_below j l = closed_below es i n (j + 1) (o.table) li (omega arith)

  at_above : (j : ℕ) → i - 1 ≤ j → j < count - 1 → entry (closed_up es i n) (j + 1) ≡ entry es (j + 1 + 1)
  at_above j l h = closed_above es i n (j + 1) (o.table) li (omega arith) (omega (arith, o.few))

  below : (j : ℕ) → j < i → entry (closed_up es i n) j ≡ entry es j
  below j l = closed_below es i n j o.table li l

  above : (j : ℕ) → i ≤ j → j < count → entry (closed_up es i n) j ≡ entry es (j + 1)
  above j a b = closed_above es i n j o.table li a (omega (arith, o.few))

  files_removed : files_of ns v (closed_up es i n) (count - 1) ≡ remove (files_of ns v es count) (i - 1)
  files_removed =
      let fs = files_of ns v es count in
      let lk = files_long o v in
      let lr = length-remove fs (i - 1) (omega arith) in
      let lk' = files_long o' v in
      ext_get_or fresh (files_of ns v (closed_up es i n) (count - 1)) (remove fs (i - 1)) (omega arith)
      (λ j l.
      let lj : j < count - 1 = omega arith in
      files_at o' v j fresh lj ∙
      ⊎_elim
      (λ (b : j < i - 1). ap (file_of ns v) (at_below j b) ∙ sym (get_or-remove_below fs (i - 1) fresh j b (omega arith) ∙ files_at o v j fresh (omega arith)))
      (λ (b : i - 1 ≤ j). ap (file_of ns v) (at_above j b lj) ∙ sym (get_or-remove_above fs (i - 1) fresh j b (omega arith) ∙ files_at o v (j + 1) fresh (omega arith)))
      (cases_lt j (i - 1)))

  pub files_drop : files_in ns v (closed_up es i n) (count - 1) ≡ put (files_in ns v es count) (entry es i).number None
  files_drop =
      let num : Entry → ℕ = λ e. e.number in
      let in_table : (j : ℕ) → j ≤ count → j < length es = λ j l. omega (arith, o.table, o.few) in
      put_ext (files_in ns v es count) (files_in ns v (closed_up es i n) (count - 1)) (entry es i).number None
      (find_none o' v _ (λ j a b e.
      ⊎_elim
      (λ (l : j < i). let same : j ≡ i = o.sound.apart j i (in_table j (omega arith), in_table i le, sym (ap num (below j l)) ∙ e) in omega arith)
      (λ (l : i ≤ j). let same : j + 1 ≡ i = o.sound.apart (j + 1) i (in_table (j + 1) (omega arith), in_table i le, sym (ap num (above j l (omega arith))) ∙ e) in omega arith)
      (cases_lt j i)))
      (λ m ne.
      ⊎_elim
      (λ r.
      let k = r.0 in
      let other : k ≡ i → ⊥ = λ u. ne (sym r.3 ∙ ap (λ (x : ℕ). (entry es x).number) u) in
      ⊎_elim
      (λ (l : k < i). file_at o' v k m r.1 (omega arith) (ap num (below k l) ∙ r.3) ∙ ap (λ (e : Entry). Some (file_of ns v e)) (below k l) ∙ sym (file_at o v k m r.1 r.2 r.3))
      (λ (l : i ≤ k).
      let le' : k ≤ count = r.2 in
      let u : k - 1 + 1 ≡ k = omega arith in
      let c : entry (closed_up es i n) (k - 1) ≡ entry es k = above (k - 1) (omega arith) (omega arith) ∙ ap (entry es) u in
      file_at o' v (k - 1) m (omega arith) (omega arith) (ap num c ∙ r.3) ∙ ap (λ (e : Entry). Some (file_of ns v e)) c ∙ sym (file_at o v k m r.1 r.2 r.3))
      (cases_lt k i))
      (λ g.
      find_none o' v m (λ j a b e.
      ⊎_elim (λ (l : j < i). g j a (omega arith) (sym (ap num (below j l)) ∙ e)) (λ (l : i ≤ j). g (j + 1) (omega arith) (omega arith) (sym (ap num (above j l (omega arith))) ∙ e)) (cases_lt j i))
      ∙ sym (find_none o v m g))
      (present es m count))

  pub load_drop : ((load_of (files_of ns v (closed_up es i n) (count - 1))).files + 1 ≡ (load_of (files_of ns v es count)).files)
      × ((load_of (files_of ns v (closed_up es i n) (count - 1))).batches + length (held ns v (entry es i)) ≡ (load_of (files_of ns v es count)).batches)
  load_drop =
      let g : File → ℕ = λ f. length f.batches in
      let fs = files_of ns v es count in
      let lk = files_long o v in
      let lx : i - 1 < length fs = omega arith in
      let lr = length-remove fs (i - 1) lx in
      let e : i - 1 + 1 ≡ i = omega arith in
      let b = sum_by-append g (take (i - 1) fs) (drop (suc (i - 1)) fs) in
      let c = sum_by-take-drop g fs (i - 1) in
      let d : sum_by g (drop (i - 1) fs) ≡ sum_by g (get_or fs (i - 1) fresh ∷ drop (suc (i - 1)) fs) = ap (sum_by g) (drop_more fs (i - 1) fresh lx ∙ ap (λ (k : ℕ). get_or fs (i - 1) fresh ∷ drop k fs) (add-one (i - 1))) in
      let f = sum_by-cons g (get_or fs (i - 1) fresh) (drop (suc (i - 1)) fs) in
      let h : g (get_or fs (i - 1) fresh) ≡ length (held ns v (entry es i)) = ap g (files_at o v (i - 1) fresh (omega arith) ∙ ap (λ (k : ℕ). file_of ns v (entry es k)) e) in
      let r = files_removed in
      (omega (arith, ap length r), omega (arith, ap (sum_by g) r))

-- what is free and what the files have is all there is
sum_zero : {X : Type 0} (f : X → ℕ) (d : X) (xs : List X) → ((k : ℕ) → k < length xs → f (get_or xs k d) ≡ 0) → sum_by f xs ≡ 0
sum_zero f d [] h = refl
sum_zero f d (x ∷ xs) h = omega (arith, sum_by-cons f x xs, h 0 (omega arith), sum_zero f d xs (λ k l. h (suc k) (omega arith)))

sum_through : {X Y : Type 0} (g : Y → ℕ) (h : X → Y) (f : X → ℕ) → ((x : X) → g (h x) ≡ f x) → (xs : List X) → sum_by g (map h xs) ≡ sum_by f xs
sum_through g h f e [] = refl
sum_through g h f e (x ∷ xs) = omega (arith, sum_by-cons g (h x) (map h xs), sum_by-cons f x xs, e x, sum_through g h f e xs)

pub all_nodes : {ns : List Node} {es : List Entry} {count next : ℕ} (o : Order ns es count next) (v : ℕ → Node → List ℕ) → (entry es 0).len + (load_of (files_of ns v es count)).batches ≡ length ns
all_nodes {ns = ns} {es} {count} o v =
    let len : Entry → ℕ = λ e. e.len in
    let tb = o.table in
    let a = sum_by-take-drop len es 1 in
    let b = sum_by_more len es 0 blank_entry (omega arith) in
    let c = sum_by-take-drop len (drop 1 es) count in
    let ld = length-drop 1 es in
    let ldd = length-drop count (drop 1 es) in
    let z = sum_zero len blank_entry (drop count (drop 1 es)) (λ k l.
    let w = get_or-drop count (drop 1 es) k blank_entry ∙ get_or-drop 1 es (count + k) blank_entry in
    ap len w ∙ (o.unused (1 + (count + k)) (omega arith, omega arith)).0) in
    let t = sum_through (λ (f : File). length f.batches) (file_of ns v) len (λ e. length-walk ns o.sound.backed (λ c. (node ns c).back) (λ c. v c (node ns c)) e.last e.len) (in_use es count) in
    let f = o.sound.full in
    omega arith

-- the first entry in use with the number, from the entries in use
pub sought_is : {ns : List Node} {es : List Entry} {count next : ℕ} (o : Order ns es count next) (n : ℕ) (r : Option ℕ) → r ≡ option_map (λ i. i + 1) (position (λ (e : Entry). e.number == n) (slice_range es 1 (count + 1))) → Sought es count n r
sought_is {es = es} {count} o n r e =
    let p : Entry → Bool = λ (e : Entry). e.number == n in
    let xs = in_use es count in
    let k = position_or_len p xs in
    let long = in_use_long o in
    let e' : r ≡ option_map (λ i. i + 1) (position p xs) = e ∙ ap (λ (m : ℕ). option_map (λ i. i + 1) (position p (take m (drop 1 es)))) (omega arith) in
    subst (Sought es count n) (sym e')
    (⊎_elim
    (λ (l : k < length xs).
    let at : (entry es (k + 1)).number ≡ n = eqb-true _ _ (ap p (sym (in_use_at o k (omega arith))) ∙ passes_at_first p xs blank_entry l) in
    rw (cond-true (ltb k (length xs)) (Some k) None (lt-ltb k (length xs) l)) (omega arith, omega arith, at))
    (λ (l : length xs ≤ k).
    rw (cond-false (ltb k (length xs)) (Some k) None (le-ltb k (length xs) l))
    (λ i lo le h.
    let u : i - 1 + 1 ≡ i = omega arith in
    let no = ap p (sym (in_use_at o (i - 1) (omega arith) ∙ ap (entry es) u)) ∙ fails_before_first p xs (i - 1) blank_entry (omega arith) in
    true≢false (sym (eq-eqb _ _ h) ∙ no)))
    (cases_lt k (length xs)))
