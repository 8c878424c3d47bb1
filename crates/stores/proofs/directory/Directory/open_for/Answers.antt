-- A length that is not lawful; or what is left is whether the file is open.
use Rattle.std.proofs.Common.{sym}
use Rattle.stores.proofs.Replies.{open_for_is, length_lawful}
use Rattle.stores.proofs.directory.Directory.open_for.Goals as goal

pub returns : goal.returns
returns c = open_for_is c.args.self.now c.args.file c.args.batch.now (length_lawful c.args.batch.now (sym c.if-is_empty.ensures) c.if-batch-gt-BATCH_WORDS.false) c.open.result c.open.ensures
