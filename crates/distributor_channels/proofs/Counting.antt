-- The open count by index. Assumes nothing.
use Rattle.std.proofs.Common.{◌≡◌, ℕ, zero, suc, ◌+◌, ◌<◌, ◌≤◌, Bool, true, false, List, [], ◌∷◌, length, get_or, sym, refl, ap, ◌∙◌, ap₂, arith}
use Rattle.distributor_channels.specs.Meaning.{Chan, bit, is_open, open_count, shut}
use Rattle.distributor_channels.specs.Histories.{Event, idle, open_of}

pub bit_below : (a b : Bool) → (a ≡ true → b ≡ true) → bit a ≤ bit b
bit_below true b i = rw (i refl) (omega arith)
bit_below false b i = omega arith

-- how many of the first n numbers pass the test
abbrev upto : (ℕ → Bool) → ℕ → ℕ
upto p zero = 0
upto p (suc n) = bit (p n) + upto p n

upto_first : (p : ℕ → Bool) (n : ℕ) → upto p (suc n) ≡ bit (p 0) + upto (λ k. p (suc k)) n
upto_first p zero = refl
upto_first p (suc n) = let r = upto_first p n in omega arith

module _ {T : Type 0} where
  count_upto : (cs : List (Chan T)) → open_count cs ≡ upto (λ k. is_open (get_or cs k shut)) (length cs)
  count_upto [] = refl
  count_upto (c ∷ cs) = ap (λ n. bit (is_open c) + n) (count_upto cs) ∙ sym (upto_first (λ k. is_open (get_or (c ∷ cs) k shut)) (length cs))

  of_upto : (v : ℕ) (h : List (Event T)) (p : ℕ → Bool) (n : ℕ) → ((k : ℕ) → k < n → p k ≡ idle v k h) → upto p n ≡ open_of v n h
  of_upto v h p zero e = refl
  of_upto v h p (suc n) e = ap₂ (λ b i. bit b + i) (e n (omega arith)) (of_upto v h p n (λ k l. e k (omega arith)))

  -- where channels count as open exactly when their histories say so, the counts are equal
  pub count_is : (v n : ℕ) (h : List (Event T)) (cs : List (Chan T)) → length cs ≡ n → ((k : ℕ) → k < n → is_open (get_or cs k shut) ≡ idle v k h) → open_count cs ≡ open_of v n h
  count_is v n h cs l e = count_upto cs ∙ (rw l (of_upto v h (λ k. is_open (get_or cs k shut)) n e))
