use Rattle.std.proofs.Common.{sym, ◌∙◌, rules}
use Rattle.bank.specs.Banks.{view}
use Rattle.bank.proofs.Turns.{turn_none, turn_out, turn_back}
use Rattle.bank.proofs.Bank.turn.Goals as goal

pub returns-in_default : goal.returns-in_default
returns-in_default g c = record { law = turn_none (g.P.Test.passes c.args.p.now) (view c.args.self.now) c.args.q.now c.args.out.now c.in_default.ensures; same = search rules }

pub returns-then-test : goal.returns-then-test
returns-then-test g c = record {
  law = turn_out (g.P.Test.passes c.args.p.now) (view c.args.self.now) c.args.q.now c.args.out.now c.in-Some.x.now c.in-Some.ensures
      (sym c.test.ensures ∙ c.if-test.true) _ _ _ _ c.pass.ensures.law;
  same = search rules;
}

pub returns : goal.returns
returns g c = record {
  law = turn_back (g.P.Test.passes c.args.p.now) (view c.args.self.now) c.args.q.now c.args.out.now c.in-Some.x.now c.in-Some.ensures
      (sym c.test.ensures ∙ c.if-test.false) _ _ _ _ _ _ _ c.new-aside.ensures _ _ c.pass-2.ensures.law c.pass-3.ensures.law;
  same = search rules;
}
