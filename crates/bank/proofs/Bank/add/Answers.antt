use Rattle.bank.proofs.Steps.{add_refused, add_did}
use Rattle.bank.proofs.Bank.add.Goals as goal

pub returns-then-not-relink-clause-law : goal.returns-then-not-relink-clause-law
returns-then-not-relink-clause-law g c = add_refused c.args.self.now.free c.args.self.now.cells.now c.args.q.now _ _ _ c.args.x c.relink.result c.if-not-relink.true c.relink.ensures

pub returns-clause-law : goal.returns-clause-law
returns-clause-law g c = add_did c.args.self.now.free c.args.self.now.cells.now c.args.q.now _ _ _ c.args.x c.relink.result c.if-not-relink.false _ _ c.relink.ensures c.fill.ensures.law
