-- A notice or a receipt is its fields: that they fit has one proof. Assumes nothing.
use Rattle.std.specs.Prelude.{◌≡◌, ℕ, ◌%◌, ◌^◌, ◌<◌, List, take, ◌≢◌, slice_index}
use Rattle.std.proofs.Common.{sym, ap, subst, ◌∙◌, lit<, mod-eq_of_lt}
use mathlib.Core.HLevel.{×_prop, ×₃_prop, is_prop→PathP}
use Rattle.std.proofs.Math.Bridge.{le_prop}
use Rattle.std.proofs.lemmas.List.{get_or-take}
use Rattle.std.proofs.lemmas.Bool.{cond-true, cond-false, eq-eqb, ne_eqb}
use Rattle.resources.specs.declared.notice.Notice.{Notice}
use Rattle.resources.specs.declared.receipt.Seen.{Seen}
use Rattle.resources.specs.declared.receipt.Left.{Left}
use Rattle.resources.specs.declared.receipt.Receipt.{Receipt}
use Rattle.resources.specs.declared.receipt.Receipt.TheVariants as kinds
use Rattle.resources.specs.Payloads.{notice_words, notice_read, receipt_words, receipt_read, seen_read, left_read}

pub notice_is : (a b : Notice) → a.id ≡ b.id → a.rows ≡ b.rows → a.size ≡ b.size → a ≡ b
notice_is a b p q r = λ i. record {
  id = p i;
  rows = q i;
  size = r i;
  fits = is_prop→PathP (λ j. (p j < 2 ^ 64) × (q j < 2 ^ 32) × (r j < 2 ^ 32)) (λ j. ×₃_prop le_prop le_prop le_prop) a.fits b.fits i;
}

pub seen_is : (a b : Seen) → a.person ≡ b.person → a.line ≡ b.line → a ≡ b
seen_is a b p q = λ i. record {
  person = p i;
  line = q i;
  fits = is_prop→PathP (λ j. (p j < 2 ^ 32) × (q j < 2 ^ 32)) (λ j. ×_prop le_prop le_prop) a.fits b.fits i;
}

pub left_is : (a b : Left) → a.person ≡ b.person → a ≡ b
left_is a b p = λ i. record { person = p i; fits = is_prop→PathP (λ j. p j < 2 ^ 32) (λ j. le_prop) a.fits b.fits i }

pub notice_back : (x : Notice) → notice_read (notice_words x) ≡ x
notice_back x = notice_is _ x (mod-eq_of_lt x.fits.0) (mod-eq_of_lt x.fits.1) (mod-eq_of_lt x.fits.2)

pub receipt_back : (x : Receipt) → receipt_read (receipt_words x) ≡ x
receipt_back (kinds.Seen s) = ap kinds.Seen (seen_is _ s (mod-eq_of_lt s.fits.0) (mod-eq_of_lt s.fits.1))
receipt_back (kinds.Left l) = ap kinds.Left (left_is _ l (mod-eq_of_lt l.fits))

-- what is read of the front of a place is the reading of its first three words
pub notice_read_lem : (xs : List ℕ) (a : Notice) → a.id ≡ slice_index xs 0 → a.rows ≡ slice_index xs 1 % 2 ^ 32 → a.size ≡ slice_index xs 2 % 2 ^ 32 → a ≡ notice_read (take 3 xs)
notice_read_lem xs a p q r = notice_is a _
    (p ∙ sym (mod-eq_of_lt (subst (λ (n : ℕ). n < 2 ^ 64) p a.fits.0)) ∙ ap (λ (n : ℕ). n % 2 ^ 64) (sym (get_or-take 3 xs 0 0 (lit< tt))))
    (q ∙ ap (λ (n : ℕ). n % 2 ^ 32) (sym (get_or-take 3 xs 1 0 (lit< tt))))
    (r ∙ ap (λ (n : ℕ). n % 2 ^ 32) (sym (get_or-take 3 xs 2 0 (lit< tt))))

pub seen_read_lem : (xs : List ℕ) (a : Seen) → slice_index xs 0 ≡ 0 → a.person ≡ slice_index xs 1 % 2 ^ 32 → a.line ≡ slice_index xs 2 % 2 ^ 32 → kinds.Seen a ≡ receipt_read (take 3 xs)
seen_read_lem xs a z q r =
    let e : a ≡ seen_read (take 3 xs) = seen_is a _ (q ∙ ap (λ (n : ℕ). n % 2 ^ 32) (sym (get_or-take 3 xs 1 0 (lit< tt)))) (r ∙ ap (λ (n : ℕ). n % 2 ^ 32) (sym (get_or-take 3 xs 2 0 (lit< tt)))) in
    ap kinds.Seen e ∙ sym (cond-true _ _ _ (eq-eqb _ _ (get_or-take 3 xs 0 0 (lit< tt) ∙ z)))

pub left_read_lem : (xs : List ℕ) (a : Left) → (slice_index xs 0 ≢ 0) → a.person ≡ slice_index xs 1 % 2 ^ 32 → kinds.Left a ≡ receipt_read (take 3 xs)
left_read_lem xs a z q =
    let e : a ≡ left_read (take 3 xs) = left_is a _ (q ∙ ap (λ (n : ℕ). n % 2 ^ 32) (sym (get_or-take 3 xs 1 0 (lit< tt)))) in
    ap kinds.Left e ∙ sym (cond-false _ _ _ (ne_eqb _ _ (λ h. z (sym (get_or-take 3 xs 0 0 (lit< tt)) ∙ h))))
