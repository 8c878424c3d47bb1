-- One file more.
use Rattle.std.proofs.Common.{refl}
use Rattle.stores.proofs.Replies.{creates}
use Rattle.stores.proofs.directory.Directory.create.Goals as goal

pub returns : goal.returns
returns c = creates c.args.self.now _ c.if-self-ge-FILES_MOST.false refl refl refl refl
