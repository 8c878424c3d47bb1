-- Worked runs over the steps, each channel with one sender. Assumes nothing.
use Rattle.std.specs.Prelude.{◌≡◌, ℕ, ◌+◌, ◌-◌, true, [], ◌∷◌, map, length, Ok}
use Rattle.refusal.specs.declared.Refusal.TheVariants.{Range}
use Rattle.bank.specs.Lists.{total}
use Rattle.distributor_channels.specs.declared.SendPoll.TheVariants.{Wait}
use Rattle.distributor_channels.specs.declared.ReceivePoll.TheVariants.{Element, End}
use Rattle.distributor_channels.specs.Meaning.{Meaning, Facts, Out, open_count, opened}
use Rattle.distributor_channels.specs.Steps.{SendAnswer, ReceiveAnswer, CloseAnswer, back, send_step, receive_step, close_sender_step, close_receiver_step}

-- memories of 8 waiting places and 8 cells that hold nothing else
abbrev pub around : Meaning ℕ → Facts
around m = record { fit = true; places = 8 - (length m.sending + total (map (λ c. c.receiving) m.chans)); cells = 8 - total (map (λ c. c.queue) m.chans) }

abbrev pub count : Meaning ℕ → ℕ
count m = open_count m.chans

abbrev pub send : Meaning ℕ → ℕ → ℕ → ℕ → Out ℕ (SendAnswer ℕ)
send m k w x = send_step (around m) m k w x

abbrev pub receive : Meaning ℕ → ℕ → ℕ → Out ℕ (ReceiveAnswer ℕ)
receive m k w = receive_step (around m) m k w

abbrev pub close_sender : Meaning ℕ → ℕ → Out ℕ CloseAnswer
close_sender m k = close_sender_step (around m) m k

abbrev pub close_receiver : Meaning ℕ → ℕ → Out ℕ CloseAnswer
close_receiver m k = close_receiver_step (around m) m k

-- Sends on 0, 0, 1 leave counts 1, 1, 0. A send on 0 with waker 7 waits. Of two receives on 0, the second names 7.
abbrev pub Gate : Type 0
Gate = (x y z u : ℕ) →
    let a = (send (opened 2 1) 0 1 x).next in let b = (send a 0 1 y).next in let c = (send b 1 1 z).next in
    let d = send c 0 7 u in let e = receive d.next 0 9 in let f = receive e.next 0 9 in
    (count a ≡ 1) × (count b ≡ 1) × (count c ≡ 0) × (d.answer ≡ Ok (Wait u)) × (e.answer ≡ Ok (Element x 0)) × (e.named ≡ []) × (f.answer ≡ Ok (Element y 1)) × (f.named ≡ 7 ∷ [])

-- Closing the last sender of 0, then its receiver, leaves counts 1 and 1; the other order too.
abbrev pub Closings : Type 0
Closings =
    let a = (close_sender (opened 2 1) 0).next in let b = (close_receiver a 0).next in
    let c = (close_receiver (opened 2 1) 0).next in let d = (close_sender c 0).next in
    (count a ≡ 1) × (count b ≡ 1) × (count c ≡ 1) × (count d ≡ 1)

-- One element in each of two channels, 0 without sender. A receive on 0 leaves count 0, a send on 1 waits, a second receive gives the end.
abbrev pub Drained : Type 0
Drained = (x y u : ℕ) →
    let a = (close_sender (send (send (opened 2 1) 0 1 x).next 1 1 y).next 0).next in
    let b = receive a 0 9 in let c = send b.next 1 5 u in let d = receive c.next 0 9 in
    (b.answer ≡ Ok (Element x 0)) × (count b.next ≡ 0) × (c.answer ≡ Ok (Wait u)) × (d.answer ≡ Ok End)

-- One element in each of two channels, 7 waits on 0 and 8 on 1. Closing the receiver of 0 names only 7.
abbrev pub Own : Type 0
Own = (x y u v : ℕ) →
    let a = (send (send (opened 2 1) 0 1 x).next 1 1 y).next in
    let b = (send (send a 0 7 u).next 1 8 v).next in
    (close_receiver b 0).named ≡ 7 ∷ []

-- No channels: the count is 0, and a send is out of range.
abbrev pub Nowhere : Type 0
Nowhere = (w x : ℕ) → (count (opened 0 1) ≡ 0) × ((send (opened 0 1) 0 w x).answer ≡ back Range x)

-- the worked runs as one list
pub record Runs : Type 0 where
  pub gate : Gate
  pub closings : Closings
  pub drained : Drained
  pub own : Own
  pub nowhere : Nowhere
