use Rattle.bank.specs.Banks.{view}
use Rattle.bank.proofs.Laws.{counts}
use Rattle.bank.proofs.Bank.free.Goals as goal

pub returns : goal.returns
returns g c = counts (view c.args.self.now)
