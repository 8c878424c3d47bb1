-- The fields are the low bits of the words.
use Rattle.std.proofs.Common.{refl}
use Rattle.resources.specs.Words.{notice_read_lem}
use Rattle.resources.proofs.notice.NoticePayload.read.Goals as goal

pub returns : goal.returns
returns c = notice_read_lem c.args.place.now _ refl c.low.ensures c.low-2.ensures
