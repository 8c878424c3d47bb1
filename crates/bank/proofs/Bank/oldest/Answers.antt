use Rattle.bank.proofs.Steps.{reads_oldest}
use Rattle.bank.proofs.Bank.oldest.Goals as goal

pub returns : goal.returns
returns g c = reads_oldest c.args.self.now.free c.args.self.now.cells.now c.args.q.now _ _ c.look.ensures (cc)
