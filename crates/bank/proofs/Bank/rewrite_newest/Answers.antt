use Rattle.bank.proofs.Steps.{rewrites_newest}
use Rattle.bank.proofs.Bank.rewrite_newest.Goals as goal

pub returns-clause-law : goal.returns-clause-law
returns-clause-law g c = rewrites_newest c.args.self.now.free c.args.self.now.cells.now c.args.q.now c.args.x _ _ _ c.swap.ensures.law (cc)
