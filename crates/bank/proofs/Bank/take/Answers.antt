use Rattle.bank.proofs.Steps.{take_refused, take_did}
use Rattle.bank.proofs.Bank.take.Goals as goal

pub returns-then-not-relink-clause-law : goal.returns-then-not-relink-clause-law
returns-then-not-relink-clause-law g c = take_refused c.args.self.now.free c.args.self.now.cells.now c.args.q.now _ _ _ c.relink.result c.if-not-relink.true c.relink.ensures

pub returns-clause-law : goal.returns-clause-law
returns-clause-law g c = take_did c.args.self.now.free c.args.self.now.cells.now c.args.q.now _ _ _ c.relink.result c.if-not-relink.false _ _ c.relink.ensures c.empty_out.ensures
