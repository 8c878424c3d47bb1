-- The words of the delivered payloads, and what words read back as. Assumes nothing.
use Rattle.std.specs.Prelude.{ℕ, ◌%◌, ◌^◌, if◌then◌else◌, List, [], ◌∷◌, ◌==◌, slice_index}
use Rattle.std.proofs.Common.{mod-lt, lit<}
use Rattle.resources.specs.declared.notice.Notice.{Notice}
use Rattle.resources.specs.declared.receipt.Seen.{Seen}
use Rattle.resources.specs.declared.receipt.Left.{Left}
use Rattle.resources.specs.declared.receipt.Receipt.{Receipt}
use Rattle.resources.specs.declared.receipt.Receipt.TheVariants as kinds

-- a notice is id, rows, size
abbrev pub notice_words : Notice → List ℕ
notice_words x = x.id ∷ x.rows ∷ x.size ∷ []

-- of a word the low bits count that its field has
abbrev pub notice_read : List ℕ → Notice
notice_read ws = record {
  id = slice_index ws 0 % 2 ^ 64;
  rows = slice_index ws 1 % 2 ^ 32;
  size = slice_index ws 2 % 2 ^ 32;
  fits = (mod-lt (slice_index ws 0) (lit< tt), mod-lt (slice_index ws 1) (lit< tt), mod-lt (slice_index ws 2) (lit< tt));
}

abbrev pub notice_rows : Notice → ℕ
notice_rows x = x.rows

abbrev pub notice_size : Notice → ℕ
notice_size x = x.size

-- a receipt is 0, person, line where a line was seen, and 1, person, 0 where somebody left
abbrev pub receipt_words : Receipt → List ℕ
receipt_words (kinds.Seen s) = 0 ∷ s.person ∷ s.line ∷ []
receipt_words (kinds.Left l) = 1 ∷ l.person ∷ 0 ∷ []

abbrev pub seen_read : List ℕ → Seen
seen_read ws = record { person = slice_index ws 1 % 2 ^ 32; line = slice_index ws 2 % 2 ^ 32; fits = (mod-lt (slice_index ws 1) (lit< tt), mod-lt (slice_index ws 2) (lit< tt)) }

abbrev pub left_read : List ℕ → Left
left_read ws = record { person = slice_index ws 1 % 2 ^ 32; fits = mod-lt (slice_index ws 1) (lit< tt) }

-- a first word of 0 is a line seen, any other somebody who left
abbrev pub receipt_read : List ℕ → Receipt
receipt_read ws = if slice_index ws 0 == 0 then kinds.Seen (seen_read ws) else kinds.Left (left_read ws)

abbrev pub receipt_rows : Receipt → ℕ
receipt_rows r = 1

-- 16 for a line seen, 8 for somebody who left
abbrev pub receipt_size : Receipt → ℕ
receipt_size (kinds.Seen s) = 16
receipt_size (kinds.Left l) = 8
