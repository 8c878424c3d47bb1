-- All nodes are free, and a zero word stands at the start.
use Rattle.std.proofs.Common.{arith}
use Rattle.stores.proofs.Logging.{open_keeps}
use Rattle.stores.proofs.log.LogStore.new.Goals as goal

pub invariant_of-result : goal.invariant_of-result
invariant_of-result c = record { run = open_keeps c.in_ok-dir.dir c.args.words.items _ c.in_ok-dir.ensures.opened (omega (arith, c.in_ok-dir.ensures.fits, c.len.ensures, c.args.words.ok.0)) c.mark.ensures }
