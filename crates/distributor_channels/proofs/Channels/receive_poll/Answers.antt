use Rattle.std.proofs.Common.{sym, refl, ◌∙◌, arith, get_or}
use Rattle.distributor_channels.specs.declared.Channel.{Channel}
use Rattle.distributor_channels.specs.Calls.{shut_record, seen, facts}
use Rattle.distributor_channels.proofs.Chronicle.{received}
use Rattle.distributor_channels.proofs.Standing.{found_here, unwritten, unfit, beyond}
use Rattle.distributor_channels.proofs.Receiving.{receive_unfound, receive-shut, receive_end, receive_full, receive_wait, receive_taken, receive_opens, receive_wakes}
use Rattle.distributor_channels.proofs.Channels.receive_poll.Goals as goal

pub returns-then-not-fit-clause-law : goal.returns-then-not-fit-clause-law
returns-then-not-fit-clause-law g c = receive_unfound c.args.self.now (seen c.args.memories.now) c.args.channel c.args.waker (unfit (sym c.fit.ensures ∙ c.if-not-fit.true))

pub returns-then-channel-len-clause-law : goal.returns-then-channel-len-clause-law
returns-then-channel-len-clause-law g c =
    receive_unfound c.args.self.now (seen c.args.memories.now) c.args.channel c.args.waker
    (beyond (sym c.fit.ensures ∙ c.if-not-fit.false) (λ h. let e = c.len.ensures.is in let f = c.if-channel-len.true in omega arith))

pub returns-in_default-clause-law : goal.returns-in_default-clause-law
returns-in_default-clause-law g c =
    let me = c.args.self.now in let ms = seen c.args.memories.now in let k = c.args.channel in let ch : Channel = get_or me.table k shut_record in
    let fd = found_here me (facts me ms).fit k ch (sym c.fit.ensures ∙ c.if-not-fit.false) (let e = c.len.ensures.is in let f = c.if-channel-len.false in omega arith) refl in
    rw (unwritten me (facts me ms).fit k ch ch fd refl) (receive-shut me ms k c.args.waker ch fd c.in_default.is)

pub returns-then-record-eq0-clause-law : goal.returns-then-record-eq0-clause-law
returns-then-record-eq0-clause-law g c =
    let me = c.args.self.now in let ms = seen c.args.memories.now in let k = c.args.channel in let ch : Channel = get_or me.table k shut_record in
    let fd = found_here me (facts me ms).fit k ch (sym c.fit.ensures ∙ c.if-not-fit.false) (let e = c.len.ensures.is in let f = c.if-channel-len.false in omega arith) refl in
    receive_end me ms k c.args.waker ch fd c.in-Some.queue c.in-Some.is _ _ c.in_default-take.ensures.law c.if-record-eq0.true _ refl

pub returns-in-Ok-clause-law : goal.returns-in-Ok-clause-law
returns-in-Ok-clause-law g c =
    let me = c.args.self.now in let ms = seen c.args.memories.now in let k = c.args.channel in let ch : Channel = get_or me.table k shut_record in
    let fd = found_here me (facts me ms).fit k ch (sym c.fit.ensures ∙ c.if-not-fit.false) (let e = c.len.ensures.is in let f = c.if-channel-len.false in omega arith) refl in
    receive_wait me ms k c.args.waker ch fd c.in-Some.queue c.in-Some.is _ _ c.in_default-take.ensures.law c.if-record-eq0.false _ _ _ c.in-Ok.ensures.law refl _ refl

pub returns-in-Err-clause-law : goal.returns-in-Err-clause-law
returns-in-Err-clause-law g c =
    let me = c.args.self.now in let ms = seen c.args.memories.now in let k = c.args.channel in let ch : Channel = get_or me.table k shut_record in
    let fd = found_here me (facts me ms).fit k ch (sym c.fit.ensures ∙ c.if-not-fit.false) (let e = c.len.ensures.is in let f = c.if-channel-len.false in omega arith) refl in
    receive_full me ms k c.args.waker ch fd c.in-Some.queue c.in-Some.is _ _ c.in_default-take.ensures.law c.if-record-eq0.false _ _ _ c.in-Err.ensures.law refl _ refl

pub returns-then-not-is_open-clause-law : goal.returns-then-not-is_open-clause-law
returns-then-not-is_open-clause-law g c =
    let me = c.args.self.now in let ms = seen c.args.memories.now in let k = c.args.channel in let ch : Channel = get_or me.table k shut_record in
    let fd = found_here me (facts me ms).fit k ch (sym c.fit.ensures ∙ c.if-not-fit.false) (let e = c.len.ensures.is in let f = c.if-channel-len.false in omega arith) refl in
    receive_taken me ms k c.args.waker ch fd c.in-Some.queue c.in-Some.is _ _ c.in-Some-take.element c.in-Some-take.ensures.law _ refl (sym c.is_open.ensures ∙ c.if-not-is_open.true)

pub returns-then-not-was_shut-clause-law : goal.returns-then-not-was_shut-clause-law
returns-then-not-was_shut-clause-law g c =
    let me = c.args.self.now in let ms = seen c.args.memories.now in let k = c.args.channel in let ch : Channel = get_or me.table k shut_record in
    let fd = found_here me (facts me ms).fit k ch (sym c.fit.ensures ∙ c.if-not-fit.false) (let e = c.len.ensures.is in let f = c.if-channel-len.false in omega arith) refl in
    receive_opens me ms k c.args.waker ch fd c.in-Some.queue c.in-Some.is _ _ c.in-Some-take.element c.in-Some-take.ensures.law _ refl (sym c.is_open.ensures ∙ c.if-not-is_open.false) _ (λ h. omega arith) c.if-not-was_shut.true

pub returns-clause-law : goal.returns-clause-law
returns-clause-law g c =
    let me = c.args.self.now in let ms = seen c.args.memories.now in let k = c.args.channel in let ch : Channel = get_or me.table k shut_record in
    let fd = found_here me (facts me ms).fit k ch (sym c.fit.ensures ∙ c.if-not-fit.false) (let e = c.len.ensures.is in let f = c.if-channel-len.false in omega arith) refl in
    receive_wakes me ms k c.args.waker ch fd c.in-Some.queue c.in-Some.is _ _ c.in-Some-take.element c.in-Some-take.ensures.law _ refl (sym c.is_open.ensures ∙ c.if-not-is_open.false) _ (λ h. omega arith) c.if-not-was_shut.false _ _ _ _ c.name_all-named.ensures.law

pub returns-then-not-fit-clause-history : goal.returns-then-not-fit-clause-history
returns-then-not-fit-clause-history g c = received _ _ _ _ _ _ _ (returns-then-not-fit-clause-law g c)

pub returns-then-channel-len-clause-history : goal.returns-then-channel-len-clause-history
returns-then-channel-len-clause-history g c = received _ _ _ _ _ _ _ (returns-then-channel-len-clause-law g c)

pub returns-in_default-clause-history : goal.returns-in_default-clause-history
returns-in_default-clause-history g c = received _ _ _ _ _ _ _ (returns-in_default-clause-law g c)

pub returns-then-record-eq0-clause-history : goal.returns-then-record-eq0-clause-history
returns-then-record-eq0-clause-history g c = received _ _ _ _ _ _ _ (returns-then-record-eq0-clause-law g c)

pub returns-in-Ok-clause-history : goal.returns-in-Ok-clause-history
returns-in-Ok-clause-history g c = received _ _ _ _ _ _ _ (returns-in-Ok-clause-law g c)

pub returns-in-Err-clause-history : goal.returns-in-Err-clause-history
returns-in-Err-clause-history g c = received _ _ _ _ _ _ _ (returns-in-Err-clause-law g c)

pub returns-then-not-is_open-clause-history : goal.returns-then-not-is_open-clause-history
returns-then-not-is_open-clause-history g c = received _ _ _ _ _ _ _ (returns-then-not-is_open-clause-law g c)

pub returns-then-not-was_shut-clause-history : goal.returns-then-not-was_shut-clause-history
returns-then-not-was_shut-clause-history g c = received _ _ _ _ _ _ _ (returns-then-not-was_shut-clause-law g c)

pub returns-clause-history : goal.returns-clause-history
returns-clause-history g c = received _ _ _ _ _ _ _ (returns-clause-law g c)
