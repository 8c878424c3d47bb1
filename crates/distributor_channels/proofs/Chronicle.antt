-- From a call's equality with its step to the laws of the history that it makes longer. Assumes nothing.
use Rattle.std.proofs.Common.{ℕ, List, ◌∷◌, Result}
use Rattle.distributor_channels.specs.declared.Channels.{Channels}
use Rattle.distributor_channels.specs.Meaning.{Meaning, Facts, Out}
use Rattle.distributor_channels.specs.Histories.{Event, Run, sends, receives, closes_sender, closes_receiver, sending, receiving, closing_sender, closing_receiver}
use Rattle.distributor_channels.specs.Steps.{SendAnswer, ReceiveAnswer, CloseAnswer, send_step, receive_step, close_sender_step, close_receiver_step}
use Rattle.distributor_channels.specs.Calls.{Mems, facts, Does, Chronicles}
use Rattle.distributor_channels.proofs.LawsHold.{laws}

module _ {T A E : Type 0} (call : Result A E → List ℕ → Event T) (step : Facts → Meaning T → Out T (Result A E))
    (more : (n v : ℕ) (h : List (Event T)) (m : Meaning T) → Run n v h m → (f : Facts) → Run n v (call (step f m).answer (step f m).named ∷ h) (step f m).next) where
  pub chronicled : (c : Channels) (ms : Mems T) (c' : Channels) (ms' : Mems T) (r : Result A E) → Does step c ms c' ms' r → Chronicles call step c ms r
  chronicled c ms c' ms' r d n v h o m rep run =
      let e = (d o m rep).0 in
      let next = more n v h m run (facts c ms) in
      rw e (next, laws n v _ _ next)

-- the same of each call
module _ {T : Type 0} (c : Channels) (ms : Mems T) (c' : Channels) (ms' : Mems T) (k : ℕ) where
  pub sent : (w : ℕ) (x : T) (r : SendAnswer T) → Does (λ f m. send_step f m k w x) c ms c' ms' r → Chronicles (sends k w x) (λ f m. send_step f m k w x) c ms r
  sent w x r = chronicled (sends k w x) (λ f m. send_step f m k w x) (λ n v h m run f. sending run f k w x) c ms c' ms' r

  pub received : (w : ℕ) (r : ReceiveAnswer T) → Does (λ f m. receive_step f m k w) c ms c' ms' r → Chronicles (receives k w) (λ f m. receive_step f m k w) c ms r
  received w r = chronicled (receives k w) (λ f m. receive_step f m k w) (λ n v h m run f. receiving run f k w) c ms c' ms' r

  pub left_sender : (r : CloseAnswer) → Does (λ f m. close_sender_step f m k) c ms c' ms' r → Chronicles (closes_sender k) (λ f m. close_sender_step f m k) c ms r
  left_sender r = chronicled (closes_sender k) (λ f m. close_sender_step f m k) (λ n v h m run f. closing_sender run f k) c ms c' ms' r

  pub left_receiver : (r : CloseAnswer) → Does (λ f m. close_receiver_step f m k) c ms c' ms' r → Chronicles (closes_receiver k) (λ f m. close_receiver_step f m k) c ms r
  left_receiver r = chronicled (closes_receiver k) (λ f m. close_receiver_step f m k) (λ n v h m run f. closing_receiver run f k) c ms c' ms' r
