use Rattle.std.proofs.Common.{rules}
use Rattle.bank.proofs.Steps.{moves}
use Rattle.bank.proofs.Bank.pass.Goals as goal

pub returns : goal.returns
returns g c = record { law = moves c.args.self.now.free c.args.self.now.cells.now c.args.from.now c.args.to.now _ _ _ _ c.relink.ensures; same = search rules }
