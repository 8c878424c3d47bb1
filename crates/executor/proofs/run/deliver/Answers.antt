use Rattle.executor.proofs.run.deliver.Goals as goal

pub returns : goal.returns
returns g c = λ all.
    let b = c.in_ok-go.ensures.1 c.args.rooms c.args.feeds _ (c.in_ok-floor.ensures c.args.notices.now) in
    c.in_ok-all.ensures all c.args.rooms c.args.feeds b.0 b.1
