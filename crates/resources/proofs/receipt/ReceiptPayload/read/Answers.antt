-- The first word decides; the fields are the low bits of the others.
use Rattle.resources.specs.Words.{seen_read_lem, left_read_lem}
use Rattle.resources.proofs.receipt.ReceiptPayload.read.Goals as goal

pub returns-then-kind-eq-SEEN : goal.returns-then-kind-eq-SEEN
returns-then-kind-eq-SEEN c = seen_read_lem c.args.place.now _ c.if-kind-eq-SEEN.true c.low-person.ensures c.low.ensures

pub returns-else-kind-eq-SEEN : goal.returns-else-kind-eq-SEEN
returns-else-kind-eq-SEEN c = left_read_lem c.args.place.now _ c.if-kind-eq-SEEN.false c.low-person.ensures
