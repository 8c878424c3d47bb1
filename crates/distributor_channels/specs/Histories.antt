-- Laws of histories: what holds after any list of calls since opening. Assumes nothing.
--
-- A history is the list of the calls so far, the newest first, each with its answer and the wakers that it named. The words below
-- speak of the history alone; the laws tie them to what a call would answer now.
use Rattle.std.specs.Prelude.{◌≡◌, ℕ, zero, suc, ◌+◌, ◌<◌, Bool, true, false, cond, not, ◌&&◌, ◌||◌, List, [], ◌∷◌, ◌++◌, length, Ok, Err, ◌==◌, nat_lt}
use Rattle.refusal.specs.declared.Refusal.{Refusal}
use Rattle.refusal.specs.declared.Refusal.TheVariants.{Lengths, Range, Sending, Idle, Ending, Cells, Files, Places, Closed as Shut}
use Rattle.distributor_channels.specs.declared.SendPoll.TheVariants.{Sent, Wait, Closed}
use Rattle.distributor_channels.specs.declared.ReceivePoll.TheVariants.{Element, End, Wait as Await}
use Rattle.distributor_channels.specs.Meaning.{Meaning, Facts, bit, chan, opened}
use Rattle.distributor_channels.specs.Steps.{SendAnswer, ReceiveAnswer, CloseAnswer, send_step, receive_step, close_sender_step, close_receiver_step}

-- one call: its arguments (the channel, then the waker, then the element), its answer, and the wakers that it named
pub data Event (T : Type 0) : Type 0 where
  sends : ℕ → ℕ → T → SendAnswer T → List ℕ → Event T
  receives : ℕ → ℕ → ReceiveAnswer T → List ℕ → Event T
  closes_sender : ℕ → CloseAnswer → List ℕ → Event T
  closes_receiver : ℕ → CloseAnswer → List ℕ → Event T

-- h is a history of n channels opened with v senders each, and m is what it led to. Between the calls others may use the memories as
-- they like, so each call finds facts of its own.
pub data Run {T : Type 0} (n v : ℕ) : List (Event T) → Meaning T → Type 0 where
  opening : Run n v [] (opened n v)
  sending : {h : List (Event T)} {m : Meaning T} → Run n v h m → (f : Facts) (k w : ℕ) (x : T) →
      Run n v (sends k w x (send_step f m k w x).answer (send_step f m k w x).named ∷ h) (send_step f m k w x).next
  receiving : {h : List (Event T)} {m : Meaning T} → Run n v h m → (f : Facts) (k w : ℕ) →
      Run n v (receives k w (receive_step f m k w).answer (receive_step f m k w).named ∷ h) (receive_step f m k w).next
  closing_sender : {h : List (Event T)} {m : Meaning T} → Run n v h m → (f : Facts) (k : ℕ) →
      Run n v (closes_sender k (close_sender_step f m k).answer (close_sender_step f m k).named ∷ h) (close_sender_step f m k).next
  closing_receiver : {h : List (Event T)} {m : Meaning T} → Run n v h m → (f : Facts) (k : ℕ) →
      Run n v (closes_receiver k (close_receiver_step f m k).answer (close_receiver_step f m k).named ∷ h) (close_receiver_step f m k).next

-- is the waker w among these?
abbrev pub among : ℕ → List ℕ → Bool
among w [] = false
among w (x ∷ xs) = x == w || among w xs

-- did the call do what it was asked?
abbrev pub done : CloseAnswer → Bool
done (Ok _) = true
done (Err _) = false

-- is the refusal the want of a waiting place?
abbrev pub wanting : Refusal → Bool
wanting Lengths = false
wanting Range = false
wanting Shut = false
wanting Sending = false
wanting Idle = false
wanting Ending = false
wanting Cells = false
wanting Files = false
wanting Places = true

module _ {T : Type 0} where
  -- the element was accepted
  abbrev pub accepts : SendAnswer T → Bool
  accepts (Ok (Sent _)) = true
  accepts (Ok (Wait _)) = false
  accepts (Ok (Closed _)) = false
  accepts (Err _) = false

  -- the sender was told to wait
  abbrev pub parks : SendAnswer T → Bool
  parks (Ok (Sent _)) = false
  parks (Ok (Wait _)) = true
  parks (Ok (Closed _)) = false
  parks (Err _) = false

  -- the sender is held back: told to wait, or refused for want of a waiting place
  abbrev pub held_send : SendAnswer T → Bool
  held_send (Ok (Sent _)) = false
  held_send (Ok (Wait _)) = true
  held_send (Ok (Closed _)) = false
  held_send (Err r) = wanting r.why

  -- what the receiver was given
  abbrev pub gives : ReceiveAnswer T → List T
  gives (Ok (Element x _)) = x ∷ []
  gives (Ok Await) = []
  gives (Ok End) = []
  gives (Err _) = []

  -- the receiver was told to wait
  abbrev pub awaits : ReceiveAnswer T → Bool
  awaits (Ok (Element x _)) = false
  awaits (Ok Await) = true
  awaits (Ok End) = false
  awaits (Err _) = false

  -- the receiver is held back
  abbrev pub held_receive : ReceiveAnswer T → Bool
  held_receive (Ok (Element x _)) = false
  held_receive (Ok Await) = true
  held_receive (Ok End) = false
  held_receive (Err why) = wanting why

  -- the receiver was told the end
  abbrev pub ends : ReceiveAnswer T → Bool
  ends (Ok (Element x _)) = false
  ends (Ok Await) = false
  ends (Ok End) = true
  ends (Err _) = false

  -- the wakers that a call named
  abbrev pub names : Event T → List ℕ
  names (sends k w x a ws) = ws
  names (receives k w a ws) = ws
  names (closes_sender k a ws) = ws
  names (closes_receiver k a ws) = ws

  -- what was accepted on the channel k, in order
  abbrev pub accepted_by : ℕ → Event T → List T
  accepted_by k (sends j w x a ws) = cond (j == k && accepts a) (x ∷ []) []
  accepted_by k (receives j w a ws) = []
  accepted_by k (closes_sender j a ws) = []
  accepted_by k (closes_receiver j a ws) = []

  abbrev pub accepted : ℕ → List (Event T) → List T
  accepted k [] = []
  accepted k (e ∷ h) = accepted k h ++ accepted_by k e

  -- what the receiver of the channel k was given, in order
  abbrev pub given_by : ℕ → Event T → List T
  given_by k (sends j w x a ws) = []
  given_by k (receives j w a ws) = cond (j == k) (gives a) []
  given_by k (closes_sender j a ws) = []
  given_by k (closes_receiver j a ws) = []

  abbrev pub given : ℕ → List (Event T) → List T
  given k [] = []
  given k (e ∷ h) = given k h ++ given_by k e

  -- how many senders of the channel k were closed
  abbrev pub left_by : ℕ → Event T → ℕ
  left_by k (sends j w x a ws) = 0
  left_by k (receives j w a ws) = 0
  left_by k (closes_sender j a ws) = bit (j == k && done a)
  left_by k (closes_receiver j a ws) = 0

  abbrev pub left : ℕ → List (Event T) → ℕ
  left k [] = 0
  left k (e ∷ h) = left k h + left_by k e

  -- is the receiver of the channel k still open?
  abbrev pub keeps_by : ℕ → Event T → Bool
  keeps_by k (sends j w x a ws) = true
  keeps_by k (receives j w a ws) = true
  keeps_by k (closes_sender j a ws) = true
  keeps_by k (closes_receiver j a ws) = not (j == k && done a)

  abbrev pub heard : ℕ → List (Event T) → Bool
  heard k [] = true
  heard k (e ∷ h) = keeps_by k e && heard k h

  -- has the channel k, opened with v senders, an open receiver, an open sender and nothing accepted that was not given?
  abbrev pub idle : ℕ → ℕ → List (Event T) → Bool
  idle v k h = heard k h && (nat_lt (left k h) v && length (given k h) == length (accepted k h))

  -- the open count: how many of the first n channels are so
  abbrev pub open_of : ℕ → ℕ → List (Event T) → ℕ
  open_of v zero h = 0
  open_of v (suc n) h = bit (idle v n h) + open_of v n h

  -- was a sender of the channel k told to wait with the waker w, and w named by no call since?
  abbrev pub parks_by : ℕ → ℕ → Event T → Bool
  parks_by k w (sends j u x a ws) = (j == k && u == w) && parks a
  parks_by k w (receives j u a ws) = false
  parks_by k w (closes_sender j a ws) = false
  parks_by k w (closes_receiver j a ws) = false

  abbrev pub send_waits : ℕ → ℕ → List (Event T) → Bool
  send_waits k w [] = false
  send_waits k w (e ∷ h) = parks_by k w e || (not (among w (names e)) && send_waits k w h)

  -- the same of the channel's receiver
  abbrev pub awaits_by : ℕ → ℕ → Event T → Bool
  awaits_by k w (sends j u x a ws) = false
  awaits_by k w (receives j u a ws) = (j == k && u == w) && awaits a
  awaits_by k w (closes_sender j a ws) = false
  awaits_by k w (closes_receiver j a ws) = false

  abbrev pub receive_waits : ℕ → ℕ → List (Event T) → Bool
  receive_waits k w [] = false
  receive_waits k w (e ∷ h) = awaits_by k w e || (not (among w (names e)) && receive_waits k w h)

-- What holds of a history h of n channels opened with v senders each, and of what it led to. f stands for whatever the next call finds, with
-- memories of the right lengths.
pub record Laws {T : Type 0} (n v : ℕ) (h : List (Event T)) (m : Meaning T) : Type 0 where
  -- what an open receiver was given, followed by what is queued, is what was accepted there, in order
  pub delivery : (k : ℕ) → k < n → heard k h ≡ true → given k h ++ (chan m k).queue ≡ accepted k h
  -- a send to an open receiver is held back exactly when the open count is 0
  pub gate : (f : Facts) (k w : ℕ) (x : T) → f.fit ≡ true → k < n → heard k h ≡ true → left k h < v →
      held_send (send_step f m k w x).answer ≡ (open_of v n h == 0)
  -- an open receiver is held back exactly when everything accepted was given, and a sender is open
  pub receivers : (f : Facts) (k w : ℕ) → f.fit ≡ true → k < n → heard k h ≡ true →
      held_receive (receive_step f m k w).answer ≡ (nat_lt (left k h) v && length (given k h) == length (accepted k h))
  -- and it is told the end exactly when everything accepted was given, and no sender is open
  pub endings : (f : Facts) (k w : ℕ) → f.fit ≡ true → k < n → heard k h ≡ true →
      ends (receive_step f m k w).answer ≡ (not (nat_lt (left k h) v) && length (given k h) == length (accepted k h))
  -- a sender that was told to wait, still open, its waker unnamed since, would be held back again
  pub no_sender_forgotten : (f : Facts) (k w u : ℕ) (x : T) → f.fit ≡ true → send_waits k w h ≡ true → left k h < v →
      held_send (send_step f m k u x).answer ≡ true
  -- a receiver that was told to wait, still open, its waker unnamed since, would be held back again
  pub no_receiver_forgotten : (f : Facts) (k w u : ℕ) → f.fit ≡ true → receive_waits k w h ≡ true → heard k h ≡ true →
      held_receive (receive_step f m k u).answer ≡ true
