use Rattle.bank.specs.Banks.{view}
use Rattle.bank.proofs.Laws.{measures}
use Rattle.bank.proofs.Bank.len.Goals as goal

pub returns : goal.returns
returns g c = measures (view c.args.self.now) c.args.q.now
