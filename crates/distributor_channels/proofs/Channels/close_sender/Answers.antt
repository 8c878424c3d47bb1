use Rattle.std.proofs.Common.{◌-◌, sym, refl, ap, ◌∙◌, get_or, arith}
use Rattle.distributor_channels.specs.declared.Channel.{Channel}
use Rattle.distributor_channels.specs.Calls.{shut_record, seen, facts}
use Rattle.distributor_channels.proofs.Chronicle.{left_sender}
use Rattle.distributor_channels.proofs.Standing.{found_here, unwritten, unfit, beyond}
use Rattle.distributor_channels.specs.Meaning.{bit}
use Rattle.distributor_channels.proofs.Closing.{as_bit, leave_unfound, leave-shut, leave_fewer, leave_last}
use Rattle.distributor_channels.proofs.Channels.close_sender.Goals as goal

pub returns-then-not-fit-clause-law : goal.returns-then-not-fit-clause-law
returns-then-not-fit-clause-law g c = leave_unfound c.args.self.now (seen c.args.memories.now) c.args.channel (unfit (sym c.fit.ensures ∙ c.if-not-fit.true))

pub returns-then-channel-len-clause-law : goal.returns-then-channel-len-clause-law
returns-then-channel-len-clause-law g c =
    leave_unfound c.args.self.now (seen c.args.memories.now) c.args.channel
    (beyond (sym c.fit.ensures ∙ c.if-not-fit.false) (λ h. let e = c.len.ensures.is in let f = c.if-channel-len.true in omega arith))

pub returns-then-record-eq0-clause-law : goal.returns-then-record-eq0-clause-law
returns-then-record-eq0-clause-law g c =
    let me = c.args.self.now in let ms = seen c.args.memories.now in let k = c.args.channel in let ch : Channel = get_or me.table k shut_record in
    let fd = found_here me (facts me ms).fit k ch (sym c.fit.ensures ∙ c.if-not-fit.false) (let e = c.len.ensures.is in let f = c.if-channel-len.false in omega arith) refl in
    rw (unwritten me (facts me ms).fit k ch ch fd refl) (leave-shut me ms k ch fd c.if-record-eq0.true)

pub returns-then-record-gt1-clause-law : goal.returns-then-record-gt1-clause-law
returns-then-record-gt1-clause-law g c =
    let me = c.args.self.now in let ms = seen c.args.memories.now in let k = c.args.channel in let ch : Channel = get_or me.table k shut_record in
    let fd = found_here me (facts me ms).fit k ch (sym c.fit.ensures ∙ c.if-not-fit.false) (let e = c.len.ensures.is in let f = c.if-channel-len.false in omega arith) refl in
    leave_fewer me ms k ch fd c.if-record-eq0.false c.if-record-gt1.true _ refl _ refl

pub returns-clause-law : goal.returns-clause-law
returns-clause-law g c =
    let me = c.args.self.now in let ms = seen c.args.memories.now in let k = c.args.channel in let ch : Channel = get_or me.table k shut_record in
    let fd = found_here me (facts me ms).fit k ch (sym c.fit.ensures ∙ c.if-not-fit.false) (let e = c.len.ensures.is in let f = c.if-channel-len.false in omega arith) refl in
    leave_last me ms k ch fd c.if-record-eq0.false c.if-record-gt1.false _ _ _ _ _ c.name_all.ensures.law
    (c.saturating_sub-self.ensures ∙ ap (λ b. me.count - b) (c.from.ensures ∙ (as_bit c.is_open.result ∙ ap bit c.is_open.ensures))) _ refl

pub returns-then-not-fit-clause-history : goal.returns-then-not-fit-clause-history
returns-then-not-fit-clause-history g c = left_sender _ _ _ _ _ _ (returns-then-not-fit-clause-law g c)

pub returns-then-channel-len-clause-history : goal.returns-then-channel-len-clause-history
returns-then-channel-len-clause-history g c = left_sender _ _ _ _ _ _ (returns-then-channel-len-clause-law g c)

pub returns-then-record-eq0-clause-history : goal.returns-then-record-eq0-clause-history
returns-then-record-eq0-clause-history g c = left_sender _ _ _ _ _ _ (returns-then-record-eq0-clause-law g c)

pub returns-then-record-gt1-clause-history : goal.returns-then-record-gt1-clause-history
returns-then-record-gt1-clause-history g c = left_sender _ _ _ _ _ _ (returns-then-record-gt1-clause-law g c)

pub returns-clause-history : goal.returns-clause-history
returns-clause-history g c = left_sender _ _ _ _ _ _ (returns-clause-law g c)
