use Rattle.std.proofs.Common.{◌≡◌, ◌<◌, ◌≤◌, length, replicate, Some, sym, refl, ◌∙◌, arith}
use Rattle.std.proofs.lemmas.Bool.Decides.{nat_tests}
use Rattle.std.proofs.lemmas.List.{take-replicate}
use Rattle.distributor_channels.specs.declared.Channel.{Channel}
use Rattle.distributor_channels.specs.declared.Channels.{Channels}
use Rattle.distributor_channels.specs.Calls.{records, seen}
use Rattle.distributor_channels.proofs.Opening.{stands_opened, fits-opened}
use Rattle.distributor_channels.proofs.Channels.open.Goals as goal

pub returns : goal.returns
returns g c =
    let ms = seen c.args.memories.now in let n = c.args.n in
    let ok = sym c.within_limits.ensures ∙ c.if-not-within_limits.false in
    let room : c.size-places.result ≤ length ms.woken = grind (arith, nat_tests) in
    let some : 0 < c.args.senders = grind (arith, nat_tests) in
    let ch : Channel = record { queue = Some c.new-2.result; receiving = c.new-3.result; senders = c.args.senders } in
    let made : Channels = record { n = n; table = replicate 32 ch; sending = c.new-4.result; count = n; places = c.size-places.result; cells = c.size-cells.result } in
    let rs : records made ≡ replicate n ch = take-replicate n 32 ch c.if-n-gt-MOST_CHANNELS.false in (
      grind (arith, nat_tests),
      fits-opened made ms c.size-cells.ensures c.size-places.ensures (let e = c.size-places.ensures in omega arith),
      stands_opened made ms n c.args.senders ch c.if-n-gt-MOST_CHANNELS.false some (cc) rs c.new-4.ensures refl,
    )
