-- Laws for callers: what may be concluded of a memory in good order without a look at its cells. Assumes nothing.
use Rattle.std.proofs.Common.{◌≡◌, ℕ, suc, ◌+◌, ◌<◌, ◌≤◌, ◌≢◌, List, [], ◌∷◌, map, length, get_or, set, Some, None, Option, refl, ap, ◌∙◌, arith, length-set}
use lib.ListN.{length-map, length-replicate}
use Rattle.std.proofs.lemmas.List.{ext_get_or, get_or-map, get_or-set_same, get_or-set_other}
use Rattle.bank.specs.declared.Cell.{Cell}
use Rattle.bank.specs.declared.Queue.{Queue}
use Rattle.bank.specs.Lists.{list, total}
use Rattle.bank.specs.Cells.{at, empty}
use Rattle.bank.specs.Chains.{Chain}
use Rattle.bank.specs.Banks.{Mem, Is, size, freed, Keeps, before, walk, lists, Counts, Measures}
use Rattle.bank.proofs.Links.{holds_at, total-at}
use Rattle.bank.proofs.Numbering.{total_some}
use Rattle.bank.proofs.Steps.{same_many, opened, chain_is, list_is, len_is}

-- the queue that was put is there
pub is_here : (qs : List Queue) (k : ℕ) (q q' : Queue) → Is qs k q → Is (set qs k q') k q'
is_here qs k q q' i = let h = i.0 in (simp length-set h, get_or-set_same qs k q' empty h)

-- and the others still are
pub is_there : (qs : List Queue) (k j : ℕ) (q q' : Queue) → Is qs j q → j ≢ k → Is (set qs k q') j q
is_there qs k j q q' i n = let h = i.0 in (simp length-set h, get_or-set_other qs k j q' empty n ∙ i.1)

module _ {T : Type 0} where
  -- as many lists as queues
  pub keeps_same : (m : Mem T) (qs : List Queue) (xss : List (List T)) → Keeps m qs xss → length qs ≡ length xss
  keeps_same m qs xss w = same_many m qs xss w

  -- a queue is as long as its list
  pub keeps_len : (m : Mem T) (qs : List Queue) (xss : List (List T)) (k : ℕ) (q : Queue) → Keeps m qs xss → Is qs k q → q.len ≡ length (list xss k)
  keeps_len m qs xss k q w i = len_is m qs xss w k q i (list xss k) refl

  -- free cells and elements are all cells
  pub keeps_free : (m : Mem T) (qs : List Queue) (xss : List (List T)) → Keeps m qs xss → freed m + total xss ≡ size m
  keeps_free m qs xss w =
      let c = (opened m qs xss w).count in let t = total_some xss in let l = length-replicate {A = Option T} m.free.len None in omega arith

  -- a list is no longer than the memory
  pub keeps-fits : (m : Mem T) (qs : List Queue) (xss : List (List T)) (k : ℕ) → Keeps m qs xss → length (list xss k) + freed m ≤ size m
  keeps-fits m qs xss k w = let f = keeps_free m qs xss w in let t = total-at xss k in omega arith

  walk_chain : (own pos : ℕ → ℕ) (cs : List (Cell T)) (k p i : ℕ) (xs : List T) (t : ℕ) → Chain own pos cs k p i (map Some xs) t → walk cs (length xs) i ≡ xs
  walk_chain own pos cs k p i [] t _ = refl
  walk_chain own pos cs k p i (x ∷ []) t (n, e) = ap (λ (o : Option T). before o []) n.holds
  walk_chain own pos cs k p i (x ∷ (y ∷ ys)) t (n, r) =
      let h = walk_chain own pos cs k (suc (pos i)) (at cs i).next (y ∷ ys) t r in
      ap (λ (o : Option T). before o (walk cs (suc (length ys)) (at cs i).next)) n.holds ∙ ap (λ (zs : List T). x ∷ zs) h

  -- the lists are those that are read off the cells, so a memory in good order keeps no others
  pub lists_are : (m : Mem T) (qs : List Queue) (xss : List (List T)) → Keeps m qs xss → lists m qs ≡ xss
  unfolding lists
  lists_are m qs xss w =
      let read = λ (q : Queue). walk m.cells q.len q.head in
      ext_get_or [] (map read qs) xss (length-map qs read ∙ keeps_same m qs xss w)
      (λ j h.
      let l : j < length qs = rw length-map at h in
      let q = get_or qs j empty in
      let ln = keeps_len m qs xss j q w (l, refl) in
      let c = holds_at m.cells _ _ (opened m qs xss w) (suc j) q (chain_is m qs xss w j q (l, refl)) (map Some (list xss j)) (list_is m qs xss w j q (l, refl) (list xss j) refl) in
      get_or-map read qs j empty [] l ∙ rw ln (walk_chain _ _ m.cells (suc j) 0 q.head (list xss j) q.tail c.1))

  pub counts : (m : Mem T) → Counts m (freed m)
  counts m = (refl, λ qs xss w. (keeps_free m qs xss w, lists_are m qs xss w))

  pub measures : (m : Mem T) (q : Queue) → Measures m q q.len
  measures m q = (refl, λ qs xss k w i. keeps_len m qs xss k q w i)
