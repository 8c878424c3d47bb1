use Rattle.std.proofs.Common.{◌≡◌, ◌≤◌, take}
use Rattle.distributor_channels.specs.Calls.{tallied}
use Rattle.distributor_channels.proofs.tally.Given as goal

abbrev pub invariant-loop-channel : goal.invariant-loop-channel
invariant-loop-channel l = (l.count ≤ l.channel-index) × (l.count ≡ tallied (take l.channel-index l.table))
