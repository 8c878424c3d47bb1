-- Words written to a memory, and words copied from it. Assumes nothing.
use Rattle.std.proofs.Common.{◌≡◌, ℕ, ◌+◌, ◌-◌, ◌<◌, ◌≤◌, List, ◌++◌, length, get_or, take, drop, sym, refl, ap, ◌∙◌, arith, length-drop, length-take}
use lib.Seq.{paste}
use Rattle.std.proofs.lemmas.List.{get_or-drop, get_or-take, ext_get_or, get_or_append_left, get_or-append_right}
use Rattle.std.proofs.lemmas.List.Edits.{paste_all, length-paste}

-- what was laid down is found there
pub laid_here : (m : List ℕ) (at : ℕ) (s : List ℕ) (n : ℕ) → n ≡ length s → at + length s ≤ length m → take n (drop at (paste m at s (length s))) ≡ s
laid_here m at s n e fits =
    let p = paste m at s (length s) in
    let lp : length p ≡ length m = length-paste m at s (length s) fits (omega arith) in
    let ld = length-drop at p in
    ext_get_or 0 (take n (drop at p)) s (length-take n (drop at p) ∙ omega arith)
    (λ k l.
    let lk : k < n = omega (arith, length-take n (drop at p)) in
    let pa : p ≡ take at m ++ (s ++ drop (at + length s) m) = paste_all m at s (length s) refl in
    let lt : length (take at m) ≡ at = length-take at m ∙ omega arith in
    get_or-take n (drop at p) k 0 lk ∙ get_or-drop at p k 0 ∙ ap (λ (x : List ℕ). get_or x (at + k) 0) pa
    ∙ get_or-append_right (take at m) (s ++ drop (at + length s) m) at (at + k) 0 lt (omega arith)
    ∙ ap (λ (j : ℕ). get_or (s ++ drop (at + length s) m) j 0) (omega arith)
    ∙ get_or_append_left s (drop (at + length s) m) 0 k (omega arith))

-- a word outside stays
pub laid_below : (m : List ℕ) (at : ℕ) (s : List ℕ) (k : ℕ) → at + length s ≤ length m → k < at → get_or (paste m at s (length s)) k 0 ≡ get_or m k 0
laid_below m at s k fits l =
    let lt : length (take at m) ≡ at = length-take at m ∙ omega arith in
    ap (λ (x : List ℕ). get_or x k 0) (paste_all m at s (length s) refl)
    ∙ get_or_append_left (take at m) (s ++ drop (at + length s) m) 0 k (omega arith) ∙ get_or-take at m k 0 l

pub laid_above : (m : List ℕ) (at : ℕ) (s : List ℕ) (k : ℕ) → at + length s ≤ length m → at + length s ≤ k → get_or (paste m at s (length s)) k 0 ≡ get_or m k 0
laid_above m at s k fits l =
    let lt : length (take at m) ≡ at = length-take at m ∙ omega arith in
    let e : at + length s + (k - at - length s) ≡ k = omega arith in
    ap (λ (x : List ℕ). get_or x k 0) (paste_all m at s (length s) refl)
    ∙ get_or-append_right (take at m) (s ++ drop (at + length s) m) at k 0 lt (omega arith)
    ∙ get_or-append_right s (drop (at + length s) m) (length s) (k - at) 0 refl (omega arith)
    ∙ get_or-drop (at + length s) m (k - at - length s) 0 ∙ ap (λ (j : ℕ). get_or m j 0) e

-- a stretch that the words leave alone reads as before
pub stretch_same : (m p : List ℕ) (at n : ℕ) → length p ≡ length m → ((k : ℕ) → at ≤ k → k < at + n → get_or p k 0 ≡ get_or m k 0) → take n (drop at p) ≡ take n (drop at m)
stretch_same m p at n lp h =
    let lm = length-drop at m in
    let lq = length-drop at p in
    ext_get_or 0 (take n (drop at p)) (take n (drop at m)) (length-take n (drop at p) ∙ omega arith ∙ sym (length-take n (drop at m)))
    (λ k l.
    let lk : k < n = omega (arith, length-take n (drop at p)) in
    get_or-take n (drop at p) k 0 lk ∙ get_or-drop at p k 0 ∙ h (at + k) (omega arith) (omega arith) ∙ sym (get_or-take n (drop at m) k 0 lk ∙ get_or-drop at m k 0))
