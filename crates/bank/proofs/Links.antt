-- The first cell of one chain goes behind the last of another. Assumes nothing.
use Rattle.std.proofs.Common.{◌≡◌, ℕ, zero, suc, ◌+◌, ◌<◌, ◌≤◌, true, cond, eqb, ◌≢◌, ◌⊎◌, List, [], ◌∷◌, ◌++◌, length, get_or, set, Option, sym, refl, ap, ◌∙◌, subst, inl, inr, ⊎_elim, arith, length-append, length-set}
use Rattle.std.proofs.lemmas.List.{get_or-set_same, get_or-set_other}
use Rattle.std.proofs.lemmas.Bool.{eq-eqb, ne_eqb, cond-true, cond-false, cases_eq, lt-ltb, and_from}
use Rattle.bank.specs.declared.Cell.{Cell}
use Rattle.bank.specs.declared.Queue.{Queue}
use Rattle.bank.specs.Lists.{list, total}
use Rattle.bank.specs.Cells.{at, cell, empty, last_or, first_or, longer, shorter, linkable, linked}
use Rattle.bank.specs.Chains.{Node, Chain, Holds, Chains}
use Rattle.bank.specs.Banks.{Is}
use Rattle.bank.proofs.Frames.{last_owner, first_node, rest_chain, sooner, frame, extend}

-- a label changed at the cell i
abbrev relabel : (ℕ → ℕ) → ℕ → ℕ → ℕ → ℕ
relabel f i v j = cond (eqb j i) v (f j)

relabel_same : (f : ℕ → ℕ) (i v : ℕ) → relabel f i v i ≡ v
relabel_same f i v = cond-true (eqb i i) v (f i) (eq-eqb i i refl)

relabel_other : (f : ℕ → ℕ) (i v j : ℕ) → j ≢ i → relabel f i v j ≡ f j
relabel_other f i v j n = cond-false (eqb j i) v (f j) (ne_eqb j i n)

-- the labels after the cell h has gone to the chain b, behind the cell t
abbrev owned : (ℕ → ℕ) → ℕ → ℕ → ℕ → ℕ
owned own b h = relabel own h b

abbrev placed : (ℕ → ℕ) → ℕ → ℕ → ℕ → ℕ
placed pos h t = relabel pos h (suc (pos t))

module _ {T : Type 0} (own pos : ℕ → ℕ) (cs : List (Cell T)) (a b h t : ℕ) (ne : a ≢ b)
    (oh : own h ≡ a) (hl : h < length cs) (th : (t ≡ h) ⊎ (own t ≡ b)) (tl : t < length cs) where
  long : length (linked cs t h) ≡ length cs
  long = simp length-set

  at_other : (j : ℕ) → j ≢ t → at (linked cs t h) j ≡ at cs j
  at_other j v = get_or-set_other cs t j _ _ v

  at_last : at (linked cs t h) t ≡ cell h (at cs t).item
  at_last = get_or-set_same cs t _ _ tl

  -- a chain that has neither cell
  link_frame : (c : ℕ) → c ≢ b → (p : ℕ) → ((j : ℕ) → own j ≡ c → p ≤ pos j → j ≢ h) →
      (i : ℕ) (zs : List (Option T)) (e : ℕ) → Chain own pos cs c p i zs e → Chain (owned own b h) (placed pos h t) (linked cs t h) c p i zs e
  link_frame c nb p out =
      frame own pos cs c (owned own b h) (placed pos h t) (linked cs t h) long p
      (λ j o l.
      let u : j ≢ h = out j o l in
      let v : j ≢ t = λ e. ⊎_elim (λ f. u (e ∙ f)) (λ f. nb (sym o ∙ ap own e ∙ f)) th in
      (at_other j v, relabel_other own h b j u, relabel_other pos h (suc (pos t)) j u))

  -- the moved cell holds what it held
  item_same : (at (linked cs t h) h).item ≡ (at cs h).item
  item_same =
      ⊎_elim
      (λ (e : h ≡ t). subst (λ (u : ℕ). (at (linked cs t h) u).item ≡ (at cs u).item) (sym e) (ap (λ c. c.item) at_last))
      (λ (n : h ≢ t). ap (λ c. c.item) (at_other h n))
      (cases_eq h t)

  new_node : (p : ℕ) (y : Option T) → (at cs h).item ≡ y → p ≤ suc (pos t) → Node (owned own b h) (placed pos h t) (linked cs t h) b p h y
  new_node p y was l =
      let e = relabel_same pos h (suc (pos t)) in
      record { within = rw long hl; owner = relabel_same own h b; late = rw e l; holds = item_same ∙ was }

  link_extend : (y : Option T) → (at cs h).item ≡ y → own t ≡ b → (p i : ℕ) (z : Option T) (zs : List (Option T)) → Chain own pos cs b p i (z ∷ zs) t →
      Chain (owned own b h) (placed pos h t) (linked cs t h) b p i ((z ∷ zs) ++ y ∷ []) h
  link_extend y was o =
      extend own pos cs b (owned own b h) (placed pos h t) (linked cs t h) long h y t (new_node (suc (pos t)) y was (omega arith)) at_last
      (λ j oj.
      let u : j ≢ h = λ e. ne (sym oh ∙ ap own (sym e) ∙ oj) in
      (λ v. at_other j v, relabel_other own h b j u, relabel_other pos h (suc (pos t)) j u))

-- what the chains a and b and the others hold after
pub record After {T : Type 0} (own pos : ℕ → ℕ) (cs : List (Cell T)) (a b : ℕ) (p q : Queue) (y : Option T) (xs ys : List (Option T)) (own' pos' : ℕ → ℕ) (ds : List (Cell T)) : Type 0 where
  pub can : linkable (length cs) p q (last_or q p.head) ≡ true
  pub gone : Holds own' pos' ds a (shorter cs p) xs
  pub come : Holds own' pos' ds b (longer q p.head) (ys ++ y ∷ [])
  pub others : (c : ℕ) → c ≢ a → c ≢ b → (r : Queue) (zs : List (Option T)) → Holds own pos cs c r zs → Holds own' pos' ds c r zs

module _ {T : Type 0} (own pos : ℕ → ℕ) (cs : List (Cell T)) (a b : ℕ) (p q : Queue) (y : Option T) (xs : List (Option T)) (ne : a ≢ b)
    (ha : Holds own pos cs a p (y ∷ xs)) where
  first : Node own pos cs a 0 p.head y
  first = first_node own pos cs a 0 p.head y xs p.tail ha.1

  build : (ys : List (Option T)) → Holds own pos cs b q ys → length ys < length cs →
      (th : (last_or q p.head ≡ p.head) ⊎ (own (last_or q p.head) ≡ b)) (tl : last_or q p.head < length cs) →
      Chain (owned own b p.head) (placed pos p.head (last_or q p.head)) (linked cs (last_or q p.head) p.head) b 0 (first_or q p.head) (ys ++ y ∷ []) p.head →
      After own pos cs a b p q y xs ys (owned own b p.head) (placed pos p.head (last_or q p.head)) (linked cs (last_or q p.head) p.head)
  build ys hb room th tl come =
      let h = p.head in let t = last_or q h in
      let hl : h < length cs = first.within in
      let some : 0 < p.len = omega (arith, ha.0) in
      let fits : q.len < length cs = omega (arith, hb.0) in
      let by = link_frame own pos cs a b h t ne first.owner hl th tl in
      record {
        can = and_from _ _ (lt-ltb _ _ some) (and_from _ _ (lt-ltb _ _ hl) (and_from _ _ (lt-ltb _ _ fits) (lt-ltb _ _ tl)));
        gone = (
          omega (arith, ha.0),
          sooner _ _ _ a (suc (pos h)) _ xs _ (by a ne (suc (pos h)) (λ j o l e. let f : suc (pos h) ≤ pos h = subst (λ (u : ℕ). suc (pos h) ≤ pos u) e l in omega arith)
              (at cs h).next xs p.tail (rest_chain own pos cs a 0 h y xs p.tail ha.1)),
        );
        come = (simp length-append (omega (arith, hb.0)), come);
        others = λ c u v r zs w. (w.0, by c v 0 (λ j o l e. u (sym o ∙ ap own e ∙ first.owner)) r.head zs r.tail w.1);
      }

  pub link_holds : (ys : List (Option T)) → Holds own pos cs b q ys → length ys < length cs →
      After own pos cs a b p q y xs ys (owned own b p.head) (placed pos p.head (last_or q p.head)) (linked cs (last_or q p.head) p.head)
  link_holds [] hb room =
      let h = p.head in
      let et : last_or q h ≡ h = cond-true _ _ _ (eq-eqb _ _ hb.0) in
      let ef : first_or q h ≡ h = cond-true _ _ _ (eq-eqb _ _ hb.0) in
      let tl : last_or q h < length cs = rw et first.within in
      let new = new_node own pos cs a b h (last_or q h) ne first.owner first.within (inl et) tl 0 y first.holds (omega arith) in
      build [] hb room (inl et) tl (rw ef new, ef)
  link_holds (z ∷ zs) hb room =
      let h = p.head in
      let no : q.len ≡ 0 → ⊥ = λ e. omega (arith, hb.0) in
      let et : last_or q h ≡ q.tail = cond-false _ _ _ (ne_eqb _ _ no) in
      let ef : first_or q h ≡ q.head = cond-false _ _ _ (ne_eqb _ _ no) in
      let last = last_owner own pos cs b 0 q.head z zs q.tail hb.1 in
      let o : own (last_or q h) ≡ b = rw et last.0 in
      let tl : last_or q h < length cs = rw et last.1 in
      let ch : Chain own pos cs b 0 q.head (z ∷ zs) (last_or q h) = rw et hb.1 in
      build (z ∷ zs) hb room (inr o) tl (rw ef (link_extend own pos cs a b h (last_or q h) ne first.owner first.within (inr o) tl y first.holds o 0 q.head z zs ch))

module _ {T : Type 0} where
  pub total-at : (xss : List (List T)) (k : ℕ) → length (list xss k) ≤ total xss
  total-at [] k = omega arith
  total-at (xs ∷ xss) zero = omega arith
  total-at (xs ∷ xss) (suc k) = let h = total-at xss k in omega arith

  pub total-set : (xss : List (List T)) (k : ℕ) (ys : List T) → k < length xss → total (set xss k ys) + length (list xss k) ≡ total xss + length ys
  total-set [] k ys h = absurd (omega arith)
  total-set (xs ∷ xss) zero ys h = omega arith
  total-set (xs ∷ xss) (suc k) ys h = let r = total-set xss k ys (omega arith) in omega arith

  -- what the k-th chain holds
  pub holds_at : (cs : List (Cell T)) (ps : List Queue) (yss : List (List (Option T))) (c : Chains cs ps yss) (k : ℕ) (q : Queue) → Is ps k q → (zs : List (Option T)) → list yss k ≡ zs →
      Holds c.own c.pos cs k q zs
  holds_at cs ps yss c k q i zs e = rw (← i.1, ← e) (c.each k i.0)

-- the first cell of the chain a goes behind the last of the chain b
module _ {T : Type 0} (cs : List (Cell T)) (ps : List Queue) (yss : List (List (Option T))) (c : Chains cs ps yss) (a b : ℕ) (ne : a ≢ b)
    (p q : Queue) (ia : Is ps a p) (ib : Is ps b q) (y : Option T) (ys : List (Option T)) (ea : list yss a ≡ y ∷ ys) where
  la : a < length yss
  la = let h = ia.0 in let s = c.same in omega arith

  lb : b < length (set yss a ys)
  lb = let h = ib.0 in let s = c.same in simp length-set (omega arith)

  other : list (set yss a ys) b ≡ list yss b
  other = get_or-set_other yss a b ys [] (λ e. ne (sym e))

  -- one element fewer before it arrives
  fewer : total (set yss a ys) + 1 ≡ length cs
  fewer = let t = total-set yss a ys la in let l = ap length ea in let n = c.count in omega arith

  pub link_can : After c.own c.pos cs a b p q y ys (list yss b) (owned c.own b p.head) (placed c.pos p.head (last_or q p.head)) (linked cs (last_or q p.head) p.head)
  link_can =
      let t = total-at (set yss a ys) b in let f = fewer in let o = ap length other in
      link_holds c.own c.pos cs a b p q y ys ne (holds_at cs ps yss c a p ia (y ∷ ys) ea) (list yss b) (holds_at cs ps yss c b q ib (list yss b) refl) (omega arith)

  pub link_chains : Chains (linked cs (last_or q p.head) p.head) (set (set ps a (shorter cs p)) b (longer q p.head)) (set (set yss a ys) b (list yss b ++ y ∷ []))
  link_chains =
      let own' = owned c.own b p.head in let pos' = placed c.pos p.head (last_or q p.head) in
      let ds = linked cs (last_or q p.head) p.head in
      let p' = shorter cs p in let q' = longer q p.head in let zs = list yss b ++ y ∷ [] in
      let hb : b < length (set ps a p') = simp length-set ib.0 in
      let t = total-set (set yss a ys) b zs lb in let f = fewer in let o = ap length other in let l = length-append (list yss b) (y ∷ []) in
      let ld : length ds ≡ length cs = simp length-set in
      record {
        own = own';
        pos = pos';
        each = λ j h.
            ⊎_elim
            (λ (e : j ≡ b). rw (e, get_or-set_same (set ps a p') b q' empty hb, get_or-set_same (set yss a ys) b zs [] lb) link_can.come)
            (λ (nb : j ≢ b).
            rw (get_or-set_other (set ps a p') b j q' empty nb, get_or-set_other (set yss a ys) b j zs [] nb)
            (⊎_elim
            (λ (e : j ≡ a). rw (e, get_or-set_same ps a p' empty ia.0, get_or-set_same yss a ys [] la) link_can.gone)
            (λ (na : j ≢ a).
            let hj : j < length ps = rw (length-set, length-set) at h in
            rw (get_or-set_other ps a j p' empty na, get_or-set_other yss a j ys [] na) (link_can.others j na nb (get_or ps j empty) (list yss j) (c.each j hj)))
            (cases_eq j a)))
            (cases_eq j b);
        same = simp length-set c.same;
        count = omega arith;
      }
