use Rattle.std.proofs.Common.{sym, refl, ◌∙◌, get_or, arith}
use Rattle.distributor_channels.specs.declared.Channel.{Channel}
use Rattle.distributor_channels.specs.Calls.{shut_record, seen, facts}
use Rattle.distributor_channels.proofs.Chronicle.{sent}
use Rattle.distributor_channels.proofs.Standing.{found_here, unwritten, unfit, beyond}
use Rattle.distributor_channels.proofs.Sending.{requeued_same, send_unfound, send-shut, send-closed, send_wait, send_full, send_short, send_behind, send_first}
use Rattle.distributor_channels.proofs.Channels.send_poll.Goals as goal

pub returns-then-not-fit-clause-law : goal.returns-then-not-fit-clause-law
returns-then-not-fit-clause-law g c =
    send_unfound c.args.self.now (seen c.args.memories.now) c.args.channel c.args.waker c.args.element (unfit (sym c.fit.ensures ∙ c.if-not-fit.true))

pub returns-then-not-fit-clause-history : goal.returns-then-not-fit-clause-history
returns-then-not-fit-clause-history g c = sent _ _ _ _ _ _ _ _ (returns-then-not-fit-clause-law g c)

pub returns-then-channel-len-clause-law : goal.returns-then-channel-len-clause-law
returns-then-channel-len-clause-law g c =
    send_unfound c.args.self.now (seen c.args.memories.now) c.args.channel c.args.waker c.args.element
    (beyond (sym c.fit.ensures ∙ c.if-not-fit.false) (λ h. let e = c.len.ensures.is in let f = c.if-channel-len.true in omega arith))

pub returns-then-record-eq0-clause-law : goal.returns-then-record-eq0-clause-law
returns-then-record-eq0-clause-law g c =
    let me = c.args.self.now in let ms = seen c.args.memories.now in let k = c.args.channel in let ch : Channel = get_or me.table k shut_record in
    let fd = found_here me (facts me ms).fit k ch (sym c.fit.ensures ∙ c.if-not-fit.false) (let e = c.len.ensures.is in let f = c.if-channel-len.false in omega arith) refl in
    rw (unwritten me (facts me ms).fit k ch ch fd refl) (send-shut me ms k c.args.waker c.args.element ch fd c.if-record-eq0.true)

pub returns-in_default-clause-law : goal.returns-in_default-clause-law
returns-in_default-clause-law g c =
    let me = c.args.self.now in let ms = seen c.args.memories.now in let k = c.args.channel in let ch : Channel = get_or me.table k shut_record in
    let fd = found_here me (facts me ms).fit k ch (sym c.fit.ensures ∙ c.if-not-fit.false) (let e = c.len.ensures.is in let f = c.if-channel-len.false in omega arith) refl in
    rw (unwritten me (facts me ms).fit k ch ch fd refl) (send-closed me ms k c.args.waker c.args.element ch fd c.if-record-eq0.false c.in_default.is)

pub returns-in-Ok-clause-law : goal.returns-in-Ok-clause-law
returns-in-Ok-clause-law g c =
    let me = c.args.self.now in let ms = seen c.args.memories.now in let k = c.args.channel in let ch : Channel = get_or me.table k shut_record in let q = c.in-Some.queue in
    let fd = found_here me (facts me ms).fit k ch (sym c.fit.ensures ∙ c.if-not-fit.false) (let e = c.len.ensures.is in let f = c.if-channel-len.false in omega arith) refl in
    rw (unwritten me (facts me ms).fit k ch _ fd (requeued_same ch q c.in-Some.is))
    (send_wait me ms k c.args.waker c.args.element ch fd c.if-record-eq0.false q c.in-Some.is c.if-self-eq0.true _ _ c.in-Ok.ensures.law)

pub returns-in-Err-clause-law : goal.returns-in-Err-clause-law
returns-in-Err-clause-law g c =
    let me = c.args.self.now in let ms = seen c.args.memories.now in let k = c.args.channel in let ch : Channel = get_or me.table k shut_record in let q = c.in-Some.queue in
    let fd = found_here me (facts me ms).fit k ch (sym c.fit.ensures ∙ c.if-not-fit.false) (let e = c.len.ensures.is in let f = c.if-channel-len.false in omega arith) refl in
    rw (unwritten me (facts me ms).fit k ch _ fd (requeued_same ch q c.in-Some.is))
    (send_full me ms k c.args.waker c.args.element ch fd c.if-record-eq0.false q c.in-Some.is c.if-self-eq0.true _ _ _ c.in-Err.ensures.law)

pub returns-in-Err-add-clause-law : goal.returns-in-Err-add-clause-law
returns-in-Err-add-clause-law g c =
    let me = c.args.self.now in let ms = seen c.args.memories.now in let k = c.args.channel in let ch : Channel = get_or me.table k shut_record in let q = c.in-Some.queue in
    let fd = found_here me (facts me ms).fit k ch (sym c.fit.ensures ∙ c.if-not-fit.false) (let e = c.len.ensures.is in let f = c.if-channel-len.false in omega arith) refl in
    send_short me ms k c.args.waker c.args.element ch fd c.if-record-eq0.false q c.in-Some.is c.if-self-eq0.false _ _ _ c.in-Err-add.ensures.law _ refl

pub returns-then-not-was_empty-clause-law : goal.returns-then-not-was_empty-clause-law
returns-then-not-was_empty-clause-law g c =
    let me = c.args.self.now in let ms = seen c.args.memories.now in let k = c.args.channel in let ch : Channel = get_or me.table k shut_record in let q = c.in-Some.queue in
    let fd = found_here me (facts me ms).fit k ch (sym c.fit.ensures ∙ c.if-not-fit.false) (let e = c.len.ensures.is in let f = c.if-channel-len.false in omega arith) refl in
    send_behind me ms k c.args.waker c.args.element ch fd c.if-record-eq0.false q c.in-Some.is c.if-self-eq0.false _ _ c.in_default-add.ensures.law
    (λ z. c.if-not-was_empty.true (c.len-was_empty.ensures ∙ z)) _ refl

pub returns-clause-law : goal.returns-clause-law
returns-clause-law g c =
    let me = c.args.self.now in let ms = seen c.args.memories.now in let k = c.args.channel in let ch : Channel = get_or me.table k shut_record in let q = c.in-Some.queue in
    let fd = found_here me (facts me ms).fit k ch (sym c.fit.ensures ∙ c.if-not-fit.false) (let e = c.len.ensures.is in let f = c.if-channel-len.false in omega arith) refl in
    send_first me ms k c.args.waker c.args.element ch fd c.if-record-eq0.false q c.in-Some.is c.if-self-eq0.false _ _ c.in_default-add.ensures.law
    (sym c.len-was_empty.ensures ∙ c.if-not-was_empty.false) _ _ _ _ c.name_all-named.ensures.law _ _ refl c.saturating_sub-self.ensures

pub returns-then-channel-len-clause-history : goal.returns-then-channel-len-clause-history
returns-then-channel-len-clause-history g c = sent _ _ _ _ _ _ _ _ (returns-then-channel-len-clause-law g c)

pub returns-then-record-eq0-clause-history : goal.returns-then-record-eq0-clause-history
returns-then-record-eq0-clause-history g c = sent _ _ _ _ _ _ _ _ (returns-then-record-eq0-clause-law g c)

pub returns-in_default-clause-history : goal.returns-in_default-clause-history
returns-in_default-clause-history g c = sent _ _ _ _ _ _ _ _ (returns-in_default-clause-law g c)

pub returns-in-Ok-clause-history : goal.returns-in-Ok-clause-history
returns-in-Ok-clause-history g c = sent _ _ _ _ _ _ _ _ (returns-in-Ok-clause-law g c)

pub returns-in-Err-clause-history : goal.returns-in-Err-clause-history
returns-in-Err-clause-history g c = sent _ _ _ _ _ _ _ _ (returns-in-Err-clause-law g c)

pub returns-in-Err-add-clause-history : goal.returns-in-Err-add-clause-history
returns-in-Err-add-clause-history g c = sent _ _ _ _ _ _ _ _ (returns-in-Err-add-clause-law g c)

pub returns-then-not-was_empty-clause-history : goal.returns-then-not-was_empty-clause-history
returns-then-not-was_empty-clause-history g c = sent _ _ _ _ _ _ _ _ (returns-then-not-was_empty-clause-law g c)

pub returns-clause-history : goal.returns-clause-history
returns-clause-history g c = sent _ _ _ _ _ _ _ _ (returns-clause-law g c)
