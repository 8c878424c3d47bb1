-- The reply to each answer of the channels, and what a call does to them. Assumes nothing.
use Rattle.std.specs.Prelude.{◌≡◌, ℕ, Ok, Err}
use Rattle.distributor_channels.specs.declared.Channels.{Channels}
use Rattle.distributor_channels.specs.declared.SendPoll.{SendPoll}
use Rattle.distributor_channels.specs.declared.SendPoll.TheVariants.{Sent, Wait, Closed}
use Rattle.distributor_channels.specs.declared.ReceivePoll.{ReceivePoll}
use Rattle.distributor_channels.specs.declared.ReceivePoll.TheVariants.{Element, End, Wait as Await}
use Rattle.distributor_channels.specs.Calls.{Mems, Does}
use Rattle.distributor_channels.specs.Steps.{SendAnswer, ReceiveAnswer, CloseAnswer, send_step, receive_step, close_sender_step, close_receiver_step}
use Rattle.channels_replay.specs.declared.Answer.{Answer}
use Rattle.channels_replay.specs.declared.Answer.TheVariants as answer
use Rattle.channels_replay.specs.declared.Call.{Call}
use Rattle.channels_replay.specs.declared.Call.TheVariants.{Send, Receive, CloseSender, CloseReceiver}
use Rattle.channels_replay.specs.declared.Reply.{Reply}

-- an answer, and how many wakers are named with it
abbrev pub with_named : Answer → ℕ → Reply
with_named a n = record { answer = a; named = n }

abbrev pub sent : SendPoll ℕ → Reply
sent (Sent n) = with_named answer.Sent n
sent (Wait x) = with_named answer.Wait 0
sent (Closed x) = with_named answer.Closed 0

-- the reply to a send poll
abbrev pub send_reply : SendAnswer ℕ → Reply
send_reply (Ok p) = sent p
send_reply (Err e) = with_named (answer.Refused e.why) 0

abbrev pub received : ReceivePoll ℕ → Reply
received (Element x n) = with_named (answer.Element x) n
received Await = with_named answer.Wait 0
received End = with_named answer.End 0

-- the reply to a receive poll
abbrev pub receive_reply : ReceiveAnswer ℕ → Reply
receive_reply (Ok p) = received p
receive_reply (Err why) = with_named (answer.Refused why) 0

-- the reply to a close
abbrev pub close_reply : CloseAnswer → Reply
close_reply (Ok n) = with_named answer.Done n
close_reply (Err why) = with_named (answer.Refused why) 0

-- The call is the step of that name, and the reply says what it answers.
abbrev pub Performs : Call → Channels → Mems ℕ → Channels → Mems ℕ → Reply → Type 0
Performs (Send k w x) c ms c' ms' r = (a : SendAnswer ℕ) × Does (λ f m. send_step f m k w x) c ms c' ms' a × (r ≡ send_reply a)
Performs (Receive k w) c ms c' ms' r = (a : ReceiveAnswer ℕ) × Does (λ f m. receive_step f m k w) c ms c' ms' a × (r ≡ receive_reply a)
Performs (CloseSender k) c ms c' ms' r = (a : CloseAnswer) × Does (λ f m. close_sender_step f m k) c ms c' ms' a × (r ≡ close_reply a)
Performs (CloseReceiver k) c ms c' ms' r = (a : CloseAnswer) × Does (λ f m. close_receiver_step f m k) c ms c' ms' a × (r ≡ close_reply a)
