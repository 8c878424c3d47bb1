use Rattle.std.proofs.Common.{◌-◌, Option, set, sym, refl, ap, ◌∙◌, get_or, arith}
use Rattle.distributor_channels.specs.declared.Channel.{Channel}
use Rattle.distributor_channels.specs.Calls.{shut_record, seen, facts}
use Rattle.distributor_channels.proofs.Chronicle.{left_receiver}
use Rattle.distributor_channels.proofs.Standing.{found_here, unwritten, unfit, beyond}
use Rattle.bank.specs.declared.Queue.{Queue}
use Rattle.distributor_channels.specs.Meaning.{bit}
use Rattle.distributor_channels.proofs.Closing.{as_bit, with_line, unhear_unfound, unhear_shut, unhear_gone}
use Rattle.distributor_channels.proofs.Channels.close_receiver.Goals as goal

pub returns-then-not-fit-clause-law : goal.returns-then-not-fit-clause-law
returns-then-not-fit-clause-law g c = unhear_unfound c.args.self.now (seen c.args.memories.now) c.args.channel (unfit (sym c.fit.ensures ∙ c.if-not-fit.true))

pub returns-then-channel-len-clause-law : goal.returns-then-channel-len-clause-law
returns-then-channel-len-clause-law g c =
    unhear_unfound c.args.self.now (seen c.args.memories.now) c.args.channel
    (beyond (sym c.fit.ensures ∙ c.if-not-fit.false) (λ h. let e = c.len.ensures.is in let f = c.if-channel-len.true in omega arith))

pub returns-in_default-clause-law : goal.returns-in_default-clause-law
returns-in_default-clause-law g c =
    let me = c.args.self.now in let ms = seen c.args.memories.now in let k = c.args.channel in let ch : Channel = get_or me.table k shut_record in
    let fd = found_here me (facts me ms).fit k ch (sym c.fit.ensures ∙ c.if-not-fit.false) (let e = c.len.ensures.is in let f = c.if-channel-len.false in omega arith) refl in
    rw (unwritten me (facts me ms).fit k ch _ fd (ap (with_line ch) (c.take.ensures.after ∙ (sym c.in_default.is ∙ c.take.ensures.value))))
    (unhear_shut me ms k ch fd (sym c.take.ensures.value ∙ c.in_default.is))

pub returns-clause-law : goal.returns-clause-law
returns-clause-law g c =
    let me = c.args.self.now in let ms = seen c.args.memories.now in let k = c.args.channel in let ch : Channel = get_or me.table k shut_record in
    let fd = found_here me (facts me ms).fit k ch (sym c.fit.ensures ∙ c.if-not-fit.false) (let e = c.len.ensures.is in let f = c.if-channel-len.false in omega arith) refl in
    unhear_gone me ms k ch fd c.in-Some.queue (sym c.take.ensures.value ∙ c.in-Some.is) _
    (c.saturating_sub-self.ensures ∙ ap (λ b. me.count - b) (c.from.ensures ∙ (as_bit c.is_open-was_open.result ∙ ap bit c.is_open-was_open.ensures))) _ _ c.discard.ensures.law _ _ _ c.take_out-gone.ensures.law _ _ _ _ c.name_all.ensures.law _
    (ap (λ (u : Option Queue). set me.table k (with_line ch u)) c.take.ensures.after)

pub returns-then-not-fit-clause-history : goal.returns-then-not-fit-clause-history
returns-then-not-fit-clause-history g c = left_receiver _ _ _ _ _ _ (returns-then-not-fit-clause-law g c)

pub returns-then-channel-len-clause-history : goal.returns-then-channel-len-clause-history
returns-then-channel-len-clause-history g c = left_receiver _ _ _ _ _ _ (returns-then-channel-len-clause-law g c)

pub returns-in_default-clause-history : goal.returns-in_default-clause-history
returns-in_default-clause-history g c = left_receiver _ _ _ _ _ _ (returns-in_default-clause-law g c)

pub returns-clause-history : goal.returns-clause-history
returns-clause-history g c = left_receiver _ _ _ _ _ _ (returns-clause-law g c)
