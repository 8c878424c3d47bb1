-- What the steps of a directory do to the files, whatever the nodes hold. Assumes nothing.
use Rattle.std.proofs.Common.{◌≡◌, ℕ, ◌+◌, ◌-◌, ◌<◌, ◌≤◌, Bool, true, false, eqb, List, [], ◌∷◌, ◌++◌, length, set, Some, None, Ok, Err, Option, sym, refl, ap, ◌∙◌, subst, ⊎_elim, arith}
use mathlib.Core.Path.{fun_ext}
use Rattle.std.proofs.lemmas.List.{length_push}
use Rattle.std.proofs.lemmas.Option.{slice_get-get_or, slice_get_past}
use Rattle.std.proofs.lemmas.Bool.{cases_eq, cond-true, cond-false, eq-eqb, ne_eqb}
use Rattle.resources.specs.declared.cause.Cause.{Cause}
use Rattle.stores.specs.declared.node.Node.{Node}
use Rattle.stores.specs.declared.node.Entry.{Entry}
use Rattle.resources.specs.Files.{File, Files, put, live_at, extended, shut, batch_at}
use Rattle.stores.specs.Chains.{node, entry, held, walk, linked, closed, closed_up, shifted_nodes, shifted_entries, jump_of, Cleared, Located, Order}
use Rattle.stores.specs.Filed.{file_of, files_of, files_in, load_of, without}
use Rattle.stores.proofs.Chaining.{length-walk, walk_at}
use Rattle.stores.proofs.Shifting.{Moves, moves_of, shift_order, node_here, node_other, number_same, live_same, walk_other, walk_to}
use Rattle.stores.proofs.Entries.{entry_closed, entry_kept, kept_of, finish_order}
use Rattle.stores.proofs.Lookups.{put_twice}
use Rattle.stores.proofs.Tables.{present, file_at, find_none, files_put, load_files, load_batches, files_drop, load_drop}

module _ {ns : List Node} {es : List Entry} {count next : ℕ} (o : Order ns es count next) (v : ℕ → Node → List ℕ) where
  -- a file that is open
  pub live_at_lem : (i n : ℕ) → 0 < i → i ≤ count → (entry es i).number ≡ n → (entry es i).live ≡ true → live_at (files_in ns v es count n) ≡ true
  live_at_lem i n lo le e l = ap live_at (file_at o v i n lo le e) ∙ l

  -- no file, or one that is finished
  pub not_live : (n : ℕ) → ((j : ℕ) → 0 < j → j ≤ count → (entry es j).number ≡ n → (entry es j).live ≡ false) → live_at (files_in ns v es count n) ≡ false
  not_live n h =
      ⊎_elim
      (λ r. ap live_at (file_at o v r.0 n r.1 r.2 r.3) ∙ h r.0 r.1 r.2 r.3)
      (λ g. ap live_at (find_none o v n g))
      (present es n count)

  pub located_some : (n k b : ℕ) → Located ns es count n k (Ok b) → batch_at (files_in ns v es count n) k ≡ Some (v b (node ns b))
  located_some n k b (i, lo, le, e, lk, lb, ob, pb) =
      let s = o.sound in
      let val : ℕ → List ℕ = λ c. v c (node ns c) in
      let w = held ns v (entry es i) in
      let lw : length w ≡ (entry es i).len = length-walk ns s.backed (λ c. (node ns c).back) val (entry es i).last (entry es i).len in
      ap (λ (f : Option File). batch_at f k) (file_at o v i n lo le e)
      ∙ slice_get-get_or w k [] (omega arith)
      ∙ ap Some (walk_at ns s.backed s.single val (entry es i).number k b lb (ob ∙ sym e) pb (entry es i).len (entry es i).last (s.lasts i (omega (arith, o.table, o.few))) lk)

  pub located_none : (n k : ℕ) (c : Cause) → Located ns es count n k (Err c) → batch_at (files_in ns v es count n) k ≡ None
  located_none n k c (m, h) =
      ⊎_elim
      (λ r.
      let w = held ns v (entry es r.0) in
      let lw : length w ≡ (entry es r.0).len = length-walk ns o.sound.backed (λ c. (node ns c).back) (λ c. v c (node ns c)) (entry es r.0).last (entry es r.0).len in
      ap (λ (f : Option File). batch_at f k) (file_at o v r.0 n r.1 r.2 r.3) ∙ slice_get_past w k (omega (arith, h r.0 r.1 r.2 r.3)))
      (λ g. ap (λ (f : Option File). batch_at f k) (find_none o v n g))
      (present es n count)

-- a batch is appended to the entry i
module _ {ns : List Node} {es : List Entry} {count next : ℕ} (o : Order ns es count next) (v v' : ℕ → Node → List ℕ) (i start m : ℕ) (ws : List ℕ)
    (lo : 0 < i) (le : i ≤ count) (some : 0 < (entry es 0).len)
    (same : (c : ℕ) → c < length ns → (c ≡ (entry es 0).last → ⊥) → v' c (node ns c) ≡ v c (node ns c))
    (new : v' (entry es 0).last (linked (entry es i) (entry es 0).last (jump_of ns es 0 i) start m) ≡ ws) where
  abbrev ms : List Node
  ms = shifted_nodes ns es 0 i (jump_of ns es 0 i) start m

  abbrev ds : List Entry
  ds = shifted_entries ns es 0 i

  mv : Moves ns es 0 i (jump_of ns es 0 i)
  mv = moves_of o 0 i (omega arith) le (λ e. omega arith) some

  o' : Order ms ds count next
  o' = shift_order mv start m o (omega arith) le (λ z. absurd (omega arith))

  abbrev val : ℕ → List ℕ
  val c = v c (node ns c)

  abbrev val' : ℕ → List ℕ
  val' c = v' c (node ms c)

  kept : (c : ℕ) → c < length ns → (c ≡ (entry es 0).last → ⊥) → val' c ≡ val c
  kept c l h = ap (v' c) (node_other mv start m c h) ∙ same c l h

  others : (j : ℕ) → 0 < j → j ≤ count → (j ≡ i → ⊥) → file_of ms v' (entry ds j) ≡ file_of ns v (entry es j)
  others j lj le' h =
      let w = walk_other mv start m val val' kept j (omega (arith, o.table, o.few)) (omega arith) h in
      ap (λ (b : Bool). record { live = b; batches = held ms v' (entry ds j) }) (live_same mv start m j) ∙ ap (λ (x : List (List ℕ)). record { live = (entry es j).live; batches = x }) w

  held_more : held ms v' (entry ds i) ≡ held ns v (entry es i) ++ ws ∷ []
  held_more = walk_to mv start m val val' kept ∙ ap (λ (x : List ℕ). held ns v (entry es i) ++ x ∷ []) (ap (v' (entry es 0).last) (node_here mv start m) ∙ new)

  appended : files_in ms v' ds count ≡ put (files_in ns v es count) (entry es i).number (extended (files_in ns v es count (entry es i).number) ws)
  appended =
      files_put o v o' v' (number_same mv start m) i lo le others
      ∙ ap (put (files_in ns v es count) (entry es i).number)
      (ap (λ (b : Bool). Some (record { live = b; batches = held ms v' (entry ds i) })) (live_same mv start m i)
      ∙ ap (λ (x : List (List ℕ)). Some (record { live = (entry es i).live; batches = x })) held_more
      ∙ ap (λ (f : Option File). extended f ws) (sym (file_at o v i _ lo le refl)))

  load_appended : load_of (files_of ms v' ds count) ≡ record (load_of (files_of ns v es count)) { batches = (load_of (files_of ns v es count)).batches + 1 }
  load_appended =
      let a = load_files o v o' v' (number_same mv start m) i lo le others in
      let b = load_batches o v o' v' (number_same mv start m) i lo le others in
      let c : length (held ms v' (entry ds i)) ≡ length (held ns v (entry es i)) + 1 = ap length held_more ∙ length_push (held ns v (entry es i)) ws in
      let d : (load_of (files_of ms v' ds count)).batches ≡ (load_of (files_of ns v es count)).batches + 1 = omega arith in
      ap (λ (n : ℕ). record { files = n; batches = (load_of (files_of ms v' ds count)).batches }) a ∙ ap (λ (n : ℕ). record { files = (load_of (files_of ns v es count)).files; batches = n }) d

  -- the same, where the code's words stand for the results
  pub append_files : {ps : List Node} {qs : List Entry} {count' : ℕ} (n : ℕ) → ps ≡ ms → qs ≡ ds → count' ≡ count → (entry es i).number ≡ n →
      (files_in ps v' qs count' ≡ put (files_in ns v es count) n (extended (files_in ns v es count n) ws))
      × (load_of (files_of ps v' qs count') ≡ record (load_of (files_of ns v es count)) { batches = (load_of (files_of ns v es count)).batches + 1 })
  append_files {ps = ps} {qs} {count'} n e f h g = (
    ap (λ (x : List Node). files_in x v' qs count') e ∙ ap (λ (x : List Entry). files_in ms v' x count') f ∙ ap (files_in ms v' ds) h ∙ appended ∙ ap (λ (k : ℕ). put (files_in ns v es count) k (extended (files_in ns v es count k) ws)) g,
    ap (λ (x : List Node). load_of (files_of x v' qs count')) e ∙ ap (λ (x : List Entry). load_of (files_of ms v' x count')) f ∙ ap (λ (x : ℕ). load_of (files_of ms v' ds x)) h ∙ load_appended,
  )

-- the file of the entry i is finished
module _ {ns : List Node} {es : List Entry} {count next : ℕ} (o : Order ns es count next) (v : ℕ → Node → List ℕ) (i : ℕ) (lo : 0 < i) (le : i ≤ count) where
  abbrev qs : List Entry
  qs = set es i (closed (entry es i))

  number_kept : (j : ℕ) → (entry qs j).number ≡ (entry es j).number
  number_kept = kept_of o i lo le (λ x. x.number) refl

  others_kept : (j : ℕ) → 0 < j → j ≤ count → (j ≡ i → ⊥) → file_of ns v (entry qs j) ≡ file_of ns v (entry es j)
  others_kept j a b h = ap (file_of ns v) (entry_kept o i lo le j h)

  pub finish_files : (n : ℕ) → (entry es i).number ≡ n → files_in ns v qs count ≡ put (files_in ns v es count) n (shut (files_in ns v es count n))
  finish_files n g =
      files_put o v (finish_order o i lo le) v number_kept i lo le others_kept
      ∙ ap (put (files_in ns v es count) (entry es i).number) (ap (λ (x : Entry). Some (file_of ns v x)) (entry_closed o i lo le) ∙ ap shut (sym (file_at o v i _ lo le refl)))
      ∙ ap (λ (k : ℕ). put (files_in ns v es count) k (shut (files_in ns v es count k))) g

  pub finish_load : load_of (files_of ns v qs count) ≡ load_of (files_of ns v es count)
  finish_load =
      let a = load_files o v (finish_order o i lo le) v number_kept i lo le others_kept in
      let b = load_batches o v (finish_order o i lo le) v number_kept i lo le others_kept in
      let c : length (held ns v (entry qs i)) ≡ length (held ns v (entry es i)) = ap (λ (x : Entry). length (held ns v x)) (entry_closed o i lo le) in
      let d : (load_of (files_of ns v qs count)).batches ≡ (load_of (files_of ns v es count)).batches = omega arith in
      ap (λ (m : ℕ). record { files = m; batches = (load_of (files_of ns v qs count)).batches }) a ∙ ap (λ (m : ℕ). record { files = (load_of (files_of ns v es count)).files; batches = m }) d

-- the entry i is cleared and goes out of use
pub remove_files : {ns : List Node} {es : List Entry} {count next : ℕ} (o : Order ns es count next) (v : ℕ → Node → List ℕ) (i n : ℕ) → 0 < i → i ≤ count → (entry es i).number ≡ n →
    {ms : List Node} {ds : List Entry} {next₁ : ℕ} (o₁ : Order ms ds count next₁) → Cleared ns es i ms ds → (entry ds i).len ≡ 0 →
    {ps : List Node} {qs : List Entry} {count' : ℕ} (k : ℕ) {next₂ : ℕ} → ps ≡ ms → qs ≡ closed_up ds i k → count' ≡ count - 1 → Order ps qs count' next₂ →
    (files_in ps v qs count' ≡ put (files_in ns v es count) n None) × (load_of (files_of ps v qs count') ≡ without (load_of (files_of ns v es count)) (files_in ns v es count n))
remove_files {ns = ns} {es} {count} {next} o v i n lo le g {ms} {ds} {next₁} o₁ cl empty {ps} {qs} {count'} k {next₂} e f h o₂ =
    let number = cl.number in
    let others : (j : ℕ) → 0 < j → j ≤ count → (j ≡ i → ⊥) → file_of ms v (entry ds j) ≡ file_of ns v (entry es j) = λ j a b u.
    ap (λ (x : Bool). record { live = x; batches = held ms v (entry ds j) }) (cl.live j)
    ∙ ap (λ (x : List (List ℕ)). record { live = (entry es j).live; batches = x }) (cl.others v j a (omega (arith, o.table, o.few)) u) in
    let oa : Order ms qs count' next₂ = subst (λ (x : List Node). Order x qs count' next₂) e o₂ in
    let ob : Order ms (closed_up ds i k) count' next₂ = subst (λ (x : List Entry). Order ms x count' next₂) f oa in
    let oc : Order ms (closed_up ds i k) (count - 1) next₂ = subst (λ (x : ℕ). Order ms (closed_up ds i k) x next₂) h ob in
    let one = files_put o v o₁ v number i lo le others in
    let two = files_drop o₁ v i k lo le oc in
    let a = load_files o v o₁ v number i lo le others in
    let b = load_batches o v o₁ v number i lo le others in
    let c = load_drop o₁ v i k lo le oc in
    let z : length (held ms v (entry ds i)) ≡ 0 = ap (λ (m : ℕ). length (walk (λ x. (node ms x).back) (λ x. v x (node ms x)) (entry ds i).last m)) empty in
    let d : (load_of (files_of ms v (closed_up ds i k) (count - 1))).files ≡ (load_of (files_of ns v es count)).files - 1 = omega (arith, c.0) in
    let d' : (load_of (files_of ms v (closed_up ds i k) (count - 1))).batches ≡ (load_of (files_of ns v es count)).batches - length (held ns v (entry es i)) = omega (arith, c.1) in
    let names : (x : ℕ) → files_in ms v (closed_up ds i k) (count - 1) x ≡ put (files_in ns v es count) n None x = λ x.
    ap (λ (q : Files). q x) two
    ∙ ap (λ (q : Files). put q (entry ds i).number None x) one
    ∙ ap (λ (y : ℕ). put (put (files_in ns v es count) (entry es i).number (Some (file_of ms v (entry ds i)))) y None x) (number i)
    ∙ put_twice (entry es i).number x None (Some (file_of ms v (entry ds i))) (files_in ns v es count x)
    ∙ ap (λ (y : ℕ). put (files_in ns v es count) y None x) g in (
      ap (λ (x : List Node). files_in x v qs count') e ∙ ap (λ (x : List Entry). files_in ms v x count') f ∙ ap (files_in ms v (closed_up ds i k)) h ∙ fun_ext names,
      ap (λ (x : List Node). load_of (files_of x v qs count')) e ∙ ap (λ (x : List Entry). load_of (files_of ms v x count')) f ∙ ap (λ (x : ℕ). load_of (files_of ms v (closed_up ds i k) x)) h
          ∙ ap (λ (m : ℕ). record { files = m; batches = (load_of (files_of ms v (closed_up ds i k) (count - 1))).batches }) d
          ∙ ap (λ (m : ℕ). record { files = (load_of (files_of ns v es count)).files - 1; batches = m }) d'
          ∙ ap (without (load_of (files_of ns v es count))) (sym (file_at o v i n lo le g)),
    )

-- there is no such file
pub remove-none : {ns : List Node} {es : List Entry} {count next : ℕ} (o : Order ns es count next) (v : ℕ → Node → List ℕ) (n : ℕ) → ((j : ℕ) → 0 < j → j ≤ count → (entry es j).number ≡ n → ⊥) →
    (files_in ns v es count ≡ put (files_in ns v es count) n None) × (load_of (files_of ns v es count) ≡ without (load_of (files_of ns v es count)) (files_in ns v es count n))
remove-none {ns = ns} {es} {count} o v n h =
    let e = find_none o v n h in (
      fun_ext (λ m.
          ⊎_elim
          (λ (u : m ≡ n). ap (files_in ns v es count) u ∙ e ∙ sym (cond-true (eqb m n) None (files_in ns v es count m) (eq-eqb m n u)))
          (λ (u : m ≡ n → ⊥). sym (cond-false (eqb m n) None (files_in ns v es count m) (ne_eqb m n u)))
          (cases_eq m n)),
      sym (ap (without (load_of (files_of ns v es count))) e),
    )
