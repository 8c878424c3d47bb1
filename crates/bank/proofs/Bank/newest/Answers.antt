use Rattle.bank.proofs.Steps.{reads_newest}
use Rattle.bank.proofs.Bank.newest.Goals as goal

pub returns : goal.returns
returns g c = reads_newest c.args.self.now.free c.args.self.now.cells.now c.args.q.now _ _ c.look.ensures (cc)
