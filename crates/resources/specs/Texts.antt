-- What causes, notices and receipts print. Assumes nothing.
use Rattle.std.specs.Prelude.{ℕ, List, ◌++◌, codes}
use Rattle.std.specs.Fmt.{decimal}
use Rattle.resources.specs.declared.cause.Cause.{Cause}
use Rattle.resources.specs.declared.notice.Notice.{Notice}
use Rattle.resources.specs.declared.receipt.Receipt.{Receipt}
use Rattle.resources.specs.declared.receipt.Receipt.TheVariants as kinds
use Rattle.resources.specs.Causes.{cause_number}

abbrev pub cause_text : Cause → List ℕ
cause_text c = codes "cause " ++ decimal (cause_number c)

abbrev pub notice_text : Notice → List ℕ
notice_text x = codes "notice " ++ decimal x.id ++ codes " (rows " ++ decimal x.rows ++ codes ", size " ++ decimal x.size ++ codes ")"

abbrev pub receipt_text : Receipt → List ℕ
receipt_text (kinds.Seen s) = codes "person " ++ decimal s.person ++ codes " saw line " ++ decimal s.line
receipt_text (kinds.Left l) = codes "person " ++ decimal l.person ++ codes " left"
