use Rattle.std.proofs.Common.{◌≡◌, length, min, take, sym, ap, ◌∙◌, arith}
use Rattle.std.proofs.lemmas.List.{take_min}
use Rattle.distributor_channels.specs.Calls.{seen, tallied}
use Rattle.distributor_channels.proofs.Opening.{recounted}
use Rattle.distributor_channels.proofs.Channels.recount.Goals as goal

pub returns : goal.returns
returns g c =
    let n = c.args.self.now.n in let table = c.args.self.now.table in
    let l : length table ≡ 32 = omega arith in
    recounted c.args.self.now (seen c.args.memories.now) c.tally.result (c.tally.ensures ∙ ap tallied (ap (λ k. take k table) (c.min.ensures ∙ ap (min n) (sym l)) ∙ take_min n table))
