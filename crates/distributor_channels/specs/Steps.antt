-- The four calls, each as a step on the meaning. Assumes nothing.
--
-- A step reads as the table of refusals does, the smallest number first, and then what the call does.
use Rattle.std.specs.Prelude.{ℕ, ◌-◌, cond, not, List, [], ◌∷◌, length, Ok, Err, filter, Result, ◌==◌, nat_lt}
use Rattle.refusal.specs.declared.Refusal.{Refusal}
use Rattle.refusal.specs.declared.Refusal.TheVariants.{Lengths, Range, Cells, Places, Closed as Shut}
use Rattle.bank.specs.Lists.{push, without}
use Rattle.distributor_channels.specs.declared.SendPoll.{SendPoll}
use Rattle.distributor_channels.specs.declared.SendPoll.TheVariants.{Sent, Wait, Closed}
use Rattle.distributor_channels.specs.declared.Refused.{Refused}
use Rattle.distributor_channels.specs.declared.ReceivePoll.{ReceivePoll}
use Rattle.distributor_channels.specs.declared.ReceivePoll.TheVariants.{Element, End, Wait as Await}
use Rattle.distributor_channels.specs.Meaning.{Chan, Meaning, Facts, Out, entry, wakers, on, none, open_count, chan, with_queue, with_receiving, with_senders, unheard, with_chan, with_sending, out}

-- what a send poll answers
abbrev pub SendAnswer : Type 0 → Type 0
SendAnswer T = Result (SendPoll T) (Refused T)

-- what a receive poll answers
abbrev pub ReceiveAnswer : Type 0 → Type 0
ReceiveAnswer T = Result (ReceivePoll T) Refusal

-- what a close answers: how many wakers it named
abbrev pub CloseAnswer : Type 0
CloseAnswer = Result ℕ Refusal

module _ {T : Type 0} where
  -- the channel called, once lengths and range are right
  abbrev pub find : Facts → Meaning T → ℕ → Result (Chan T) Refusal
  find f m k = cond f.fit (cond (nat_lt k (length m.chans)) (Ok (chan m k)) (Err Range)) (Err Lengths)

  -- a refused send hands its element back
  abbrev pub back : Refusal → T → SendAnswer T
  back why x = Err (record { why = why; element = x })

  -- the element is queued; in an empty queue it wakes who waits to receive
  abbrev pub accept : Meaning T → ℕ → T → Chan T → Out T (SendAnswer T)
  accept m k x c =
      cond (none c.queue)
      (out (Ok (Sent (length c.receiving))) (wakers c.receiving) (with_chan k (with_receiving [] (with_queue (push c.queue x) c)) m))
      (out (Ok (Sent 0)) [] (with_chan k (with_queue (push c.queue x) c) m))

  abbrev pub send_to : Facts → Meaning T → ℕ → ℕ → T → Chan T → Out T (SendAnswer T)
  send_to f m k w x c =
      cond (c.senders == 0) (out (back Shut x) [] m)
      (cond (not c.receiver) (out (Ok (Closed x)) [] m)
      (cond (open_count m.chans == 0)
      (cond (f.places == 0) (out (back Places x) [] m) (out (Ok (Wait x)) [] (with_sending (push m.sending (entry w k)) m)))
      (cond (f.cells == 0) (out (back Cells x) [] m) (accept m k x c))))

  abbrev pub send_by : Facts → Meaning T → ℕ → ℕ → T → Result (Chan T) Refusal → Out T (SendAnswer T)
  send_by f m k w x (Ok c) = send_to f m k w x c
  send_by f m k w x (Err why) = out (back why x) [] m

  -- Send poll of the element x on the channel k, for the waker w.
  unfoldable pub send_step : Facts → Meaning T → ℕ → ℕ → T → Out T (SendAnswer T)
  send_step f m k w x = send_by f m k w x (find f m k)

  -- the queue is xs now: where that leaves it empty, with an open sender and a shut gate, all who wait at the gate are named
  abbrev pub hand : Meaning T → ℕ → T → List T → Chan T → Out T (ReceiveAnswer T)
  hand m k x xs c =
      cond (none xs)
      (cond (c.senders == 0) (out (Ok (Element x 0)) [] (with_chan k (with_queue xs c) m))
      (cond (open_count m.chans == 0)
      (out (Ok (Element x (length m.sending))) (wakers m.sending) (with_sending [] (with_chan k (with_queue xs c) m)))
      (out (Ok (Element x 0)) [] (with_chan k (with_queue xs c) m))))
      (out (Ok (Element x 0)) [] (with_chan k (with_queue xs c) m))

  -- on an empty queue: the end, or the waker is entered
  abbrev pub await : Facts → Meaning T → ℕ → ℕ → Chan T → Out T (ReceiveAnswer T)
  await f m k w c =
      cond (c.senders == 0) (out (Ok End) [] m)
      (cond (f.places == 0) (out (Err Places) [] m) (out (Ok Await) [] (with_chan k (with_receiving (push c.receiving (entry w k)) c) m)))

  abbrev pub receive_of : Facts → Meaning T → ℕ → ℕ → Chan T → List T → Out T (ReceiveAnswer T)
  receive_of f m k w c [] = await f m k w c
  receive_of f m k w c (x ∷ xs) = hand m k x xs c

  abbrev pub receive_by : Facts → Meaning T → ℕ → ℕ → Result (Chan T) Refusal → Out T (ReceiveAnswer T)
  receive_by f m k w (Ok c) = cond c.receiver (receive_of f m k w c c.queue) (out (Err Shut) [] m)
  receive_by f m k w (Err why) = out (Err why) [] m

  -- Receive poll on the channel k, for the waker w.
  unfoldable pub receive_step : Facts → Meaning T → ℕ → ℕ → Out T (ReceiveAnswer T)
  receive_step f m k w = receive_by f m k w (find f m k)

  -- one sender fewer; the last one gone, who waits to receive is named
  abbrev pub leave : Meaning T → ℕ → Chan T → Out T CloseAnswer
  leave m k c =
      cond (c.senders == 0) (out (Err Shut) [] m)
      (cond (c.senders == 1)
      (out (Ok (length c.receiving)) (wakers c.receiving) (with_chan k (with_receiving [] (with_senders 0 c)) m))
      (out (Ok 0) [] (with_chan k (with_senders (c.senders - 1) c) m)))

  abbrev pub close_sender_by : Meaning T → ℕ → Result (Chan T) Refusal → Out T CloseAnswer
  close_sender_by m k (Ok c) = leave m k c
  close_sender_by m k (Err why) = out (Err why) [] m

  -- Closing one sender of the channel k.
  unfoldable pub close_sender_step : Facts → Meaning T → ℕ → Out T CloseAnswer
  close_sender_step f m k = close_sender_by m k (find f m k)

  -- the queue is discarded, and who waits at the gate for this channel is named; who waits to receive stays
  abbrev pub leave_unheard : Meaning T → ℕ → Chan T → Out T CloseAnswer
  leave_unheard m k c =
      cond c.receiver
      (out (Ok (length (filter (on k) m.sending))) (wakers (filter (on k) m.sending)) (with_sending (without (on k) m.sending) (with_chan k (unheard c) m)))
      (out (Err Shut) [] m)

  abbrev pub close_receiver_by : Meaning T → ℕ → Result (Chan T) Refusal → Out T CloseAnswer
  close_receiver_by m k (Ok c) = leave_unheard m k c
  close_receiver_by m k (Err why) = out (Err why) [] m

  -- Closing the receiver of the channel k.
  unfoldable pub close_receiver_step : Facts → Meaning T → ℕ → Out T CloseAnswer
  close_receiver_step f m k = close_receiver_by m k (find f m k)
