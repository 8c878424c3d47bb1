-- One node goes from the end of one chain to the end of another: the chains stay in good order. Assumes nothing.
use Rattle.std.proofs.Common.{◌≡◌, ℕ, suc, ◌+◌, ◌-◌, ◌<◌, ◌≤◌, cond, eqb, List, [], ◌∷◌, ◌++◌, length, set, sym, refl, ap, ◌∙◌, subst, ⊎_elim, add-one, arith, length-set}
use Rattle.std.proofs.lemmas.List.{get_or-set_same, get_or-set_other}
use Rattle.std.proofs.lemmas.List.Sums.{sum_by-set, get_or-le-sum_by}
use Rattle.std.proofs.lemmas.Bool.{eq-eqb, ne_eqb, cond-true, cond-false, cond_both, cases_eq}
use Rattle.stores.specs.declared.node.Node.{Node}
use Rattle.stores.specs.declared.node.Entry.{Entry}
use Rattle.stores.specs.Chains.{node, entry, walk, blank_entry, Owned, Backed, Jumps, Lasts, Single, Apart, Full, Sound, Order, shorter, longer, linked, shifted_nodes, shifted_entries, Unused, Idle, jump_of, far_of}
use Rattle.stores.proofs.Chaining.{owner_entry, place_below, owned_from, Begins, begins_back, walk_frame}

-- what a jump behind the last of the entry t may be
abbrev pub JumpOk : List Node → List Entry → ℕ → ℕ → ℕ → Type 0
JumpOk ns es t b j = ((entry es t).len ≡ 0 → j ≡ b) × (0 < (entry es t).len → (j < length ns) × ((node ns j).owner ≡ (entry es t).number) × ((node ns j).place + 1 ≤ (entry es t).len))

-- what has to hold for a node to go from the end of the entry f to the end of the entry t, with the jump j
pub record Moves (ns : List Node) (es : List Entry) (f t j : ℕ) : Type 0 where
  pub sound : Sound ns es
  pub source : f < length es
  pub target : t < length es
  pub other : f ≡ t → ⊥
  pub some : 0 < (entry es f).len
  pub jump : JumpOk ns es t (entry es f).last j

module _ {ns : List Node} {es : List Entry} {f t j : ℕ} (mv : Moves ns es f t j) (start n : ℕ) where
  abbrev b : ℕ
  b = (entry es f).last

  abbrev ms : List Node
  ms = shifted_nodes ns es f t j start n

  abbrev ds : List Entry
  ds = shifted_entries ns es f t

  moved : ((entry es f).last < length ns) × ((node ns (entry es f).last).owner ≡ (entry es f).number) × ((node ns (entry es f).last).place + 1 ≡ (entry es f).len)
  moved = mv.sound.lasts f mv.source mv.some

  numbers : (entry es f).number ≡ (entry es t).number → ⊥
  numbers h = mv.other (mv.sound.apart f t (mv.source, mv.target, h))

  pub nodes_long : length ms ≡ length ns
  nodes_long = length-set ns _ _

  pub entries_long : length ds ≡ length es
  entries_long = length-set (set es f _) t _ ∙ length-set es f _

  pub node_here : node ms (entry es f).last ≡ linked (entry es t) (entry es f).last j start n
  node_here = get_or-set_same ns _ _ _ moved.0

  pub node_other : (c : ℕ) → (c ≡ (entry es f).last → ⊥) → node ms c ≡ node ns c
  node_other c h = get_or-set_other ns _ c _ _ h

  pub entry_to : entry ds t ≡ longer (entry es t) (entry es f).last
  entry_to = get_or-set_same (set es f _) t _ _ (omega (arith, length-set es f (shorter (entry es f) (node ns (entry es f).last).back)))

  pub entry_from : entry ds f ≡ shorter (entry es f) (node ns (entry es f).last).back
  entry_from = get_or-set_other (set es f _) t f _ _ mv.other ∙ get_or-set_same es f _ _ mv.source

  pub entry_other : (i : ℕ) → (i ≡ f → ⊥) → (i ≡ t → ⊥) → entry ds i ≡ entry es i
  entry_other i hf ht = get_or-set_other (set es f _) t i _ _ ht ∙ get_or-set_other es f i _ _ hf

  -- by which entry it is
  by_entry : (P : ℕ → Type 0) → P f → P t → ((i : ℕ) → (i ≡ f → ⊥) → (i ≡ t → ⊥) → P i) → (i : ℕ) → P i
  by_entry P pf pt po i =
      ⊎_elim (λ (e : i ≡ f). subst P (sym e) pf) (λ (hf : i ≡ f → ⊥).
      ⊎_elim (λ (e : i ≡ t). subst P (sym e) pt) (λ (ht : i ≡ t → ⊥). po i hf ht) (cases_eq i t)) (cases_eq i f)

  pub number_same : (i : ℕ) → (entry ds i).number ≡ (entry es i).number
  number_same = by_entry (λ i. (entry ds i).number ≡ (entry es i).number)
      (ap (λ (e : Entry). e.number) entry_from) (ap (λ (e : Entry). e.number) entry_to) (λ i hf ht. ap (λ (e : Entry). e.number) (entry_other i hf ht))

  pub live_same : (i : ℕ) → (entry ds i).live ≡ (entry es i).live
  live_same = by_entry (λ i. (entry ds i).live ≡ (entry es i).live)
      (ap (λ (e : Entry). e.live) entry_from) (ap (λ (e : Entry). e.live) entry_to) (λ i hf ht. ap (λ (e : Entry). e.live) (entry_other i hf ht))

  -- another node of the chain stands before the last
  earlier : (c : ℕ) → c < length ns → (c ≡ (entry es f).last → ⊥) → (node ns c).owner ≡ (entry es f).number → (node ns c).place + 1 < (entry es f).len
  earlier c l h o =
      let p = place_below mv.sound c f l mv.source o in
      let q : (node ns c).place ≡ (node ns (entry es f).last).place → ⊥ = λ e. h (mv.sound.single c _ (l, moved.0, o ∙ sym moved.1, e)) in
      omega (arith, moved.2)

  apart : Apart [] ds
  apart i k (li, lk, h) =
      let e : length ds ≡ length es = entries_long in
      mv.sound.apart i k (omega arith, omega arith, sym (number_same i) ∙ h ∙ number_same k)

  owned : Owned ms ds
  owned c l =
      let lc : c < length ns = omega (arith, nodes_long) in
      let long = entries_long in
      ⊎_elim
      (λ (e : c ≡ (entry es f).last).
      let w : node ms c ≡ linked (entry es t) (entry es f).last j start n = ap (node ms) e ∙ node_here in
      owned_from ds _ _ t apart (omega arith) (ap (λ (x : Entry). x.number) entry_to ∙ sym (ap (λ (x : Node). x.owner) w))
      (rw (w, entry_to) (omega arith)))
      (λ (h : c ≡ (entry es f).last → ⊥).
      let w : node ms c ≡ node ns c = node_other c h in
      let r = owner_entry mv.sound c lc in
      let i = r.0 in
      let low : (node ns c).place < (entry ds i).len =
      by_entry (λ k. (entry es k).number ≡ (node ns c).owner → (node ns c).place < (entry es k).len → (node ns c).place < (entry ds k).len)
      (λ o p. rw entry_from (let q = earlier c lc h (sym o) in omega arith))
      (λ o p. rw entry_to (omega arith))
      (λ k hf ht o p. rw (entry_other k hf ht) p) i r.2 r.3 in
      owned_from ds _ _ i apart (omega (arith, r.1)) (number_same i ∙ r.2 ∙ sym (ap (λ (x : Node). x.owner) w)) (rw w low))
      (cases_eq c (entry es f).last)

  -- a node that is far enough before another is not the one that goes
  before : (c d : ℕ) → c < length ns → (c ≡ (entry es f).last → ⊥) → (node ns d).owner ≡ (node ns c).owner → (node ns d).place ≤ (node ns c).place - 1 → d ≡ (entry es f).last → ⊥
  before c d lc h o p e =
      let oc : (node ns c).owner ≡ (entry es f).number = sym o ∙ ap (λ (x : ℕ). (node ns x).owner) e ∙ moved.1 in
      let q = earlier c lc h oc in
      let pd : (node ns d).place ≡ (node ns (entry es f).last).place = ap (λ (x : ℕ). (node ns x).place) e in
      omega (arith, moved.2)

  -- a node of the chain t is not the one that goes
  not_moved : (d : ℕ) → (node ns d).owner ≡ (entry es t).number → d ≡ (entry es f).last → ⊥
  not_moved d o e = numbers (sym moved.1 ∙ ap (λ (x : ℕ). (node ns x).owner) (sym e) ∙ o)

  -- the node behind which it goes
  abbrev target : ℕ
  target = cond (eqb (entry es t).len 0) (entry es f).last (entry es t).last

  back_here : (target < length ns) × ((node ms target).owner ≡ (entry es t).number) × ((node ms target).place ≡ (entry es t).len - 1)
  back_here =
      ⊎_elim
      (λ (z : (entry es t).len ≡ 0).
      let e : target ≡ (entry es f).last = cond-true _ _ _ (eq-eqb _ _ z) in
      let w : node ms target ≡ linked (entry es t) (entry es f).last j start n = ap (node ms) e ∙ node_here in
      (rw e moved.0, ap (λ (x : Node). x.owner) w, ap (λ (x : Node). x.place) w ∙ omega arith))
      (λ (z : (entry es t).len ≡ 0 → ⊥).
      let e : target ≡ (entry es t).last = cond-false _ _ _ (ne_eqb _ _ z) in
      let a = mv.sound.lasts t mv.target (omega arith) in
      let w : node ms target ≡ node ns (entry es t).last = ap (node ms) e ∙ node_other _ (not_moved _ a.1) in
      (rw e a.0, ap (λ (x : Node). x.owner) w ∙ a.1, ap (λ (x : Node). x.place) w ∙ omega (arith, a.2)))
      (cases_eq (entry es t).len 0)

  backed : Backed ms ds
  backed c l =
      let long = nodes_long in
      let lc : c < length ns = omega arith in
      ⊎_elim
      (λ (e : c ≡ (entry es f).last).
      let w : node ms c ≡ linked (entry es t) (entry es f).last j start n = ap (node ms) e ∙ node_here in
      let k = back_here in
      rw w (omega (arith, k.0), k.1, k.2))
      (λ (h : c ≡ (entry es f).last → ⊥).
      let w : node ms c ≡ node ns c = node_other c h in
      let k = mv.sound.backed c lc in
      let v : node ms (node ns c).back ≡ node ns (node ns c).back = node_other _ (before c _ lc h k.1 (omega (arith, k.2))) in
      rw (w, v) (omega (arith, k.0), k.1, k.2))
      (cases_eq c (entry es f).last)

  jump_here : (j < length ns) × ((node ms j).owner ≡ (entry es t).number) × ((node ms j).place ≤ (entry es t).len - 1)
  jump_here =
      ⊎_elim
      (λ (z : (entry es t).len ≡ 0).
      let e : j ≡ (entry es f).last = mv.jump.0 z in
      let w : node ms j ≡ linked (entry es t) (entry es f).last j start n = ap (node ms) e ∙ node_here in
      (rw e moved.0, ap (λ (x : Node). x.owner) w, rw w (omega arith)))
      (λ (z : (entry es t).len ≡ 0 → ⊥).
      let a = mv.jump.1 (omega arith) in
      let w : node ms j ≡ node ns j = node_other _ (not_moved _ a.1) in
      (a.0, ap (λ (x : Node). x.owner) w ∙ a.1, rw w (omega (arith, a.2))))
      (cases_eq (entry es t).len 0)

  jumps : Jumps ms ds
  jumps c l =
      let long = nodes_long in
      let lc : c < length ns = omega arith in
      ⊎_elim
      (λ (e : c ≡ (entry es f).last).
      let w : node ms c ≡ linked (entry es t) (entry es f).last j start n = ap (node ms) e ∙ node_here in
      let k = jump_here in
      rw w (omega (arith, k.0), k.1, k.2))
      (λ (h : c ≡ (entry es f).last → ⊥).
      let w : node ms c ≡ node ns c = node_other c h in
      let k = mv.sound.jumps c lc in
      let v : node ms (node ns c).jump ≡ node ns (node ns c).jump = node_other _ (before c _ lc h k.1 k.2) in
      rw (w, v) (omega (arith, k.0), k.1, k.2))
      (cases_eq c (entry es f).last)

  lasts : Lasts ms ds
  lasts =
      let long = nodes_long in
      by_entry (λ i. i < length ds → 0 < (entry ds i).len → ((entry ds i).last < length ms) × ((node ms (entry ds i).last).owner ≡ (entry ds i).number) × ((node ms (entry ds i).last).place + 1 ≡ (entry ds i).len))
      (λ l h.
      let more : 0 < (entry es f).len - 1 = subst (λ (e : Entry). 0 < e.len) entry_from h in
      let k = mv.sound.backed (entry es f).last moved.0 in
      let d = (node ns (entry es f).last).back in
      let v : node ms d ≡ node ns d = node_other d (λ e. let q : (node ns d).place ≡ (node ns (entry es f).last).place = ap (λ (x : ℕ). (node ns x).place) e in omega (arith, k.2, moved.2)) in
      rw (entry_from, v) (omega (arith, k.0), k.1 ∙ moved.1, omega (arith, k.2, moved.2)))
      (λ l h. rw (entry_to, node_here) (omega (arith, moved.0), refl, refl))
      (λ i hf ht l h.
      let e = entry_other i hf ht in
      let li : i < length es = omega (arith, entries_long) in
      let a = mv.sound.lasts i li (subst (λ (x : Entry). 0 < x.len) e h) in
      let v : node ms (entry es i).last ≡ node ns (entry es i).last = node_other _ (λ u. hf (mv.sound.apart i f (li, mv.source, sym a.1 ∙ ap (λ (x : ℕ). (node ns x).owner) u ∙ moved.1))) in
      rw (e, v) (omega (arith, a.0), a.1, a.2))

  -- the place that it takes was free
  new_place : (c : ℕ) → c < length ns → (c ≡ (entry es f).last → ⊥) → (node ns c).owner ≡ (entry es t).number → (node ns c).place ≡ (entry es t).len → ⊥
  new_place c l h o p = let q = place_below mv.sound c t l mv.target o in omega arith

  single : Single ms ds
  single c d (lc, ld, o, p) =
      let long = nodes_long in
      let lc' : c < length ns = omega arith in
      let ld' : d < length ns = omega arith in
      ⊎_elim
      (λ (e : c ≡ (entry es f).last).
      ⊎_elim
      (λ (g : d ≡ (entry es f).last). e ∙ sym g)
      (λ (g : d ≡ (entry es f).last → ⊥).
      let w : node ms c ≡ linked (entry es t) (entry es f).last j start n = ap (node ms) e ∙ node_here in
      let v : node ms d ≡ node ns d = node_other d g in
      absurd (new_place d ld' g (sym (ap (λ (x : Node). x.owner) v) ∙ sym o ∙ ap (λ (x : Node). x.owner) w) (sym (ap (λ (x : Node). x.place) v) ∙ sym p ∙ ap (λ (x : Node). x.place) w)))
      (cases_eq d (entry es f).last))
      (λ (e : c ≡ (entry es f).last → ⊥).
      let v : node ms c ≡ node ns c = node_other c e in
      ⊎_elim
      (λ (g : d ≡ (entry es f).last).
      let w : node ms d ≡ linked (entry es t) (entry es f).last j start n = ap (node ms) g ∙ node_here in
      absurd (new_place c lc' e (sym (ap (λ (x : Node). x.owner) v) ∙ o ∙ ap (λ (x : Node). x.owner) w) (sym (ap (λ (x : Node). x.place) v) ∙ p ∙ ap (λ (x : Node). x.place) w)))
      (λ (g : d ≡ (entry es f).last → ⊥).
      let w : node ms d ≡ node ns d = node_other d g in
      mv.sound.single c d (lc', ld', sym (ap (λ (x : Node). x.owner) v) ∙ o ∙ ap (λ (x : Node). x.owner) w, sym (ap (λ (x : Node). x.place) v) ∙ p ∙ ap (λ (x : Node). x.place) w))
      (cases_eq d (entry es f).last))
      (cases_eq c (entry es f).last)

  full : Full ms ds
  full =
      let len : Entry → ℕ = λ e. e.len in
      let e1 : Entry = shorter (entry es f) (node ns (entry es f).last).back in
      let a = sum_by-set len es f e1 blank_entry mv.source in
      let lt' : t < length (set es f e1) = omega (arith, length-set es f e1) in
      let c = sum_by-set len (set es f e1) t (longer (entry es t) (entry es f).last) blank_entry lt' in
      let o : entry (set es f e1) t ≡ entry es t = get_or-set_other es f t _ _ (λ e. mv.other (sym e)) in
      let ol : (entry (set es f e1) t).len ≡ (entry es t).len = ap (λ (e : Entry). e.len) o in
      let g = mv.sound.full in
      let long = nodes_long in
      omega arith

  pub shift_sound : Sound ms ds
  shift_sound = record { owned = owned; backed = backed; jumps = jumps; lasts = lasts; single = single; apart = apart; full = full }

  module _ (val val' : ℕ → List ℕ) (same : (c : ℕ) → c < length ns → (c ≡ (entry es f).last → ⊥) → val' c ≡ val c) where
    begins_at : (i : ℕ) → i < length es → Begins ns (entry es i).number (entry es i).last (entry es i).len
    begins_at i li h = mv.sound.lasts i li h

    here : (o m : ℕ) → ((c : ℕ) → c < length ns → (node ns c).owner ≡ o → (node ns c).place < m → c ≡ (entry es f).last → ⊥) →
        (k x : ℕ) → k ≤ m → Begins ns o x k → walk (λ c. (node ms c).back) val' x k ≡ walk (λ c. (node ns c).back) val x k
    here o m out = walk_frame ns mv.sound.backed (λ c. (node ms c).back) val val' o m (λ c l oc pc. (ap (λ (x : Node). x.back) (node_other c (out c l oc pc)), same c l (out c l oc pc)))

    -- the other chains stay
    pub walk_other : (i : ℕ) → i < length es → (i ≡ f → ⊥) → (i ≡ t → ⊥) →
        walk (λ c. (node ms c).back) val' (entry ds i).last (entry ds i).len ≡ walk (λ c. (node ns c).back) val (entry es i).last (entry es i).len
    walk_other i li hf ht =
        let e = entry_other i hf ht in
        ap (λ (x : Entry). walk (λ c. (node ms c).back) val' x.last x.len) e
        ∙ here (entry es i).number (entry es i).len (λ c l o p u. hf (mv.sound.apart i f (li, mv.source, sym o ∙ ap (λ (x : ℕ). (node ns x).owner) u ∙ moved.1))) _ _ (omega arith) (begins_at i li)

    -- one chain is longer by the node
    pub walk_to : walk (λ c. (node ms c).back) val' (entry ds t).last (entry ds t).len ≡ walk (λ c. (node ns c).back) val (entry es t).last (entry es t).len ++ val' (entry es f).last ∷ []
    walk_to =
        let out : (c : ℕ) → c < length ns → (node ns c).owner ≡ (entry es t).number → (node ns c).place < (entry es t).len → c ≡ (entry es f).last → ⊥ = λ c l o p u. not_moved c o u in
        let front : walk (λ c. (node ms c).back) val' target (entry es t).len ≡ walk (λ c. (node ns c).back) val (entry es t).last (entry es t).len =
        ⊎_elim
        (λ (z : (entry es t).len ≡ 0). rw z refl)
        (λ (z : (entry es t).len ≡ 0 → ⊥).
        let e : target ≡ (entry es t).last = cond-false _ _ _ (ne_eqb _ _ z) in
        ap (λ (x : ℕ). walk (λ c. (node ms c).back) val' x (entry es t).len) e ∙ here (entry es t).number (entry es t).len out _ _ (omega arith) (begins_at t mv.target))
        (cases_eq (entry es t).len 0) in
        ap (λ (x : Entry). walk (λ c. (node ms c).back) val' x.last x.len) entry_to
        ∙ ap (λ (m : ℕ). walk (λ c. (node ms c).back) val' (entry es f).last m) (add-one (entry es t).len)
        ∙ ap (λ (x : Node). walk (λ c. (node ms c).back) val' x.back (entry es t).len ++ val' (entry es f).last ∷ []) node_here
        ∙ ap (λ (ws : List (List ℕ)). ws ++ val' (entry es f).last ∷ []) front

    -- the other is shorter by it
    pub walk_from : walk (λ c. (node ns c).back) val (entry es f).last (entry es f).len ≡ walk (λ c. (node ms c).back) val' (entry ds f).last (entry ds f).len ++ val (entry es f).last ∷ []
    walk_from =
        let m = (entry es f).len - 1 in
        let e : (entry es f).len ≡ suc m = omega arith in
        let bs : Begins ns (entry es f).number (entry es f).last (suc m) = λ h. let a = mv.sound.lasts f mv.source mv.some in (a.0, a.1, a.2 ∙ e) in
        let front = here (entry es f).number m (λ c l o p u. let q : (node ns c).place ≡ (node ns (entry es f).last).place = ap (λ (x : ℕ). (node ns x).place) u in omega (arith, moved.2)) m
        (node ns (entry es f).last).back (omega arith) (begins_back ns mv.sound.backed (entry es f).number (entry es f).last m bs) in
        ap (λ (k : ℕ). walk (λ c. (node ns c).back) val (entry es f).last k) e
        ∙ ap (λ (ws : List (List ℕ)). ws ++ val (entry es f).last ∷ []) (sym front)
        ∙ sym (ap (λ (x : Entry). walk (λ c. (node ms c).back) val' x.last x.len ++ val (entry es f).last ∷ []) entry_from)

  -- what a directory keeps stays
  module _ {count next : ℕ} (o : Order ns es count next) (cf : f ≤ count) (ct : t ≤ count) (plain : t ≡ 0 → (start ≡ 0) × (n ≡ 0)) where
    shift_unused : Unused ds count
    shift_unused i (h, l) =
        let e : entry ds i ≡ entry es i = entry_other i (λ u. omega arith) (λ u. omega arith) in
        rw e (o.unused i (h, omega (arith, entries_long)))

    shift_idle : Idle ms
    shift_idle c (l, w) =
        ⊎_elim
        (λ (e : c ≡ (entry es f).last).
        let w' : node ms c ≡ linked (entry es t) (entry es f).last j start n = ap (node ms) e ∙ node_here in
        let z : t ≡ 0 = mv.sound.apart t 0 (mv.target, omega (arith, o.table), sym (ap (λ (x : Node). x.owner) w') ∙ w ∙ sym o.free) in
        rw w' (plain z))
        (λ (h : c ≡ (entry es f).last → ⊥).
        let w' : node ms c ≡ node ns c = node_other c h in
        rw w' (o.idle c (omega (arith, nodes_long), sym (ap (λ (x : Node). x.owner) w') ∙ w)))
        (cases_eq c (entry es f).last)

    pub shift_order : Order ms ds count next
    shift_order = record {
      sound = shift_sound;
      small = omega (arith, nodes_long, o.small);
      table = entries_long ∙ o.table;
      few = o.few;
      ends = o.ends;
      free = number_same 0 ∙ o.free;
      numbers = λ i l. subst (λ (x : ℕ). x < next) (sym (number_same i)) (o.numbers i (omega (arith, entries_long)));
      unused = shift_unused;
      idle = shift_idle;
    }

-- the jump that the code computes is lawful
pub jump_ok : {ns : List Node} {es : List Entry} → Sound ns es → (f t : ℕ) → t < length es → JumpOk ns es t (entry es f).last (jump_of ns es f t)
jump_ok {ns = ns} {es} s f t lt = (
  (λ z. cond-true _ _ _ (eq-eqb _ _ z)),
  (λ h.
      let x = (entry es t).last in
      let a = s.lasts t lt h in
      let k = s.jumps x a.0 in
      let m = s.jumps (node ns x).jump k.0 in
      let e : jump_of ns es f t ≡ far_of ns x = cond-false _ _ _ (ne_eqb _ _ (λ (z : (entry es t).len ≡ 0). omega arith)) in
      rw e (cond_both _ (node ns (node ns x).jump).jump x (λ y. (y < length ns) × ((node ns y).owner ≡ (entry es t).number) × ((node ns y).place + 1 ≤ (entry es t).len))
      (λ _. (m.0, m.1 ∙ k.1 ∙ a.1, omega (arith, m.2, k.2, a.2)))
      (λ _. (a.0, a.1, omega (arith, a.2))))),
)

pub moves_of : {ns : List Node} {es : List Entry} {count next : ℕ} (o : Order ns es count next) (f t : ℕ) → f ≤ count → t ≤ count → (f ≡ t → ⊥) → 0 < (entry es f).len → Moves ns es f t (jump_of ns es f t)
moves_of o f t lf lt ne some = record {
  sound = o.sound;
  source = omega (arith, o.table, o.few);
  target = omega (arith, o.table, o.few);
  other = ne;
  some = some;
  jump = jump_ok o.sound f t (omega (arith, o.table, o.few));
}

-- a chain is no longer than there are nodes
pub len_most : {ns : List Node} {es : List Entry} (i : ℕ) → Sound ns es → i < length es → (entry es i).len ≤ length ns
len_most {es = es} i s l = omega (arith, get_or-le-sum_by (λ (e : Entry). e.len) es i blank_entry l, s.full)

-- the same, where the code's words stand for the results
pub shift_order_is : {ns : List Node} {es : List Entry} {count next : ℕ} (o : Order ns es count next) (f t start n : ℕ) → Moves ns es f t (jump_of ns es f t) → f ≤ count → t ≤ count → (t ≡ 0 → (start ≡ 0) × (n ≡ 0)) →
    (back jump before : ℕ) → back ≡ cond (eqb (entry es t).len 0) (entry es f).last (entry es t).last → jump ≡ jump_of ns es f t → before ≡ (node ns (entry es f).last).back →
    Order (set ns (entry es f).last (record { owner = (entry es t).number; place = (entry es t).len; back = back; jump = jump; start = start; length = n }))
    (set (set es f (shorter (entry es f) before)) t (longer (entry es t) (entry es f).last)) count next
shift_order_is {ns = ns} {es} {count} {next} o f t start n mv cf ct plain back jump before e g h =
    let b = (entry es f).last in
    let made : ℕ → ℕ → ℕ → Type 0 = λ x y z. Order (set ns b (record { owner = (entry es t).number; place = (entry es t).len; back = x; jump = y; start = start; length = n }))
    (set (set es f (shorter (entry es f) z)) t (longer (entry es t) b)) count next in
    subst (λ (x : ℕ). made x jump before) (sym e) (subst (λ (y : ℕ). made (cond (eqb (entry es t).len 0) b (entry es t).last) y before) (sym g)
    (subst (λ (z : ℕ). made (cond (eqb (entry es t).len 0) b (entry es t).last) (jump_of ns es f t) z) (sym h) (shift_order mv start n o cf ct plain)))
