-- Notices, the book of deliveries, and what ties both to the channels' history. Assumes nothing.
use Rattle.std.specs.Prelude.{◌≡◌, ℕ, ◌<◌, Bool, true, false, List, [], ◌∷◌, ◌++◌, map, take, Ok, Err, vec_items, filter, Result, ◌==◌, nat_eq, slice_index}
use Rattle.refusal.specs.declared.Refusal.{Refusal}
use Rattle.refusal.specs.declared.Refusal.TheVariants.{Cells, Places, Closed as Shut}
use Rattle.distributor_channels.specs.declared.SendPoll.TheVariants.{Wait, Closed, Sent as Accepted}
use Rattle.distributor_channels.specs.declared.ReceivePoll.{ReceivePoll}
use Rattle.distributor_channels.specs.Steps.{SendAnswer}
use Rattle.distributor_channels.specs.declared.Channels.{Channels}
use Rattle.distributor_channels.specs.Meaning.{Meaning}
use Rattle.distributor_channels.specs.Histories.{Event, Run as History, accepted, given, heard, ends}
use Rattle.distributor_channels.specs.Calls.{Mems, Others, seen, Represents}
use Rattle.executor.specs.declared.Notice.{Notice}
use Rattle.executor.specs.declared.Delivery.{Delivery}
use Rattle.executor.specs.declared.Floor.{Floor}
use Rattle.executor.specs.declared.run.Halt.{Halt}
use Rattle.executor.specs.declared.run.Run.{Run}
use Rattle.executor.specs.declared.Sending.{Sending}
use Rattle.executor.specs.declared.Sending.TheVariants.{Sent, Waits, Full}

-- the notices of the feed f, in order
abbrev pub of_feed : ℕ → List Notice → List Notice
of_feed f ns = filter (λ n. nat_eq n.feed f) ns

-- the numbers of the notices for the room k, in order
abbrev pub to_room : ℕ → List Notice → List ℕ
to_room k ns = map (λ n. n.id) (filter (λ n. n.room == k) ns)

-- the numbers that the book has for the room k, in order
abbrev pub booked : ℕ → List Delivery → List ℕ
booked k ds = map (λ d. d.id) (filter (λ d. d.room == k) ds)

-- Some list of calls on n channels opened with v senders led to what the floor has. No receiver was closed; sent are the notices accepted,
-- in order; the book has for each room just what its receiver was given, in order; and of each feed's notices those before its cursor were
-- accepted, in their order.
pub record Sound (n v : ℕ) (notices sent : List Notice) (c : Channels) (ms : Mems ℕ) (book : List Delivery) (cursors : List ℕ) : Type 0 where
  pub history : List (Event ℕ)
  pub others : Others ℕ
  pub meaning : Meaning ℕ
  pub represents : Represents c ms others meaning
  pub run : History n v history meaning
  pub open_ends : (k : ℕ) → heard k history ≡ true
  pub accepts : (k : ℕ) → accepted k history ≡ to_room k sent
  pub gives : (k : ℕ) → given k history ≡ booked k book
  pub order : (f : ℕ) → of_feed f sent ≡ of_feed f (take (slice_index cursors f) notices)

abbrev pub Stands : ℕ → ℕ → List Notice → List Notice → Floor → Type 0
Stands n v notices sent f = Sound n v notices sent f.channels (seen f.memories) (vec_items f.book) f.cursors

-- what stood still stands
abbrev pub Keeps : Floor → Floor → Type 0
Keeps f f' = (n v : ℕ) (notices sent : List Notice) → Stands n v notices sent f → Stands n v notices sent f'

-- a refused notice is tried again where only room was wanting
abbrev pub refused_as : Notice → Refusal → Result Sending Refusal
refused_as n Cells = Ok (Full n)
refused_as n Places = Ok (Full n)
refused_as n why = Err why

-- what the answer to a notice's send poll comes to
abbrev pub outcome_of : Notice → SendAnswer ℕ → Result Sending Refusal
outcome_of n (Ok (Accepted w)) = Ok (Sent n w)
outcome_of n (Ok (Wait _)) = Ok (Waits n)
outcome_of n (Ok (Closed _)) = Err Shut
outcome_of n (Err r) = refused_as n r.why

-- a feed goes on behind a notice that was accepted
abbrev pub advance : Result Sending Refusal → ℕ
advance (Ok (Sent _ _)) = 1
advance _ = 0

-- the notices accepted so far, after a turn of a feed
abbrev pub sent_by : Result Sending Refusal → List Notice → List Notice
sent_by (Ok (Sent n _)) sent = sent ++ n ∷ []
sent_by _ sent = sent

-- a turn of a feed came to r
abbrev pub Sends : List Notice → Result Sending Refusal → Floor → Floor → Type 0
Sends notices r f f' = (n v : ℕ) (sent : List Notice) → Stands n v notices sent f → Stands n v notices (sent_by r sent) f'

-- was the room told the end?
abbrev pub told_end : Result (ReceivePoll ℕ) Halt → Bool
told_end (Ok p) = ends {T = ℕ} (Ok p)
told_end (Err _) = false

-- after a poll of the room k, what was accepted is still the same; and if b says that the end was told, the book is too, and has all of it
abbrev pub Drained : Bool → ℕ → Floor → Floor → Type 0
Drained b k f f' = (n v : ℕ) (notices sent : List Notice) → Stands n v notices sent f →
    Stands n v notices sent f' × (b ≡ true → (vec_items f'.book ≡ vec_items f.book) × (booked k (vec_items f'.book) ≡ to_room k sent))

-- everything accepted for the first i rooms is in the book, and the feeds' places are still cs
pub record Emptied (i : ℕ) (notices : List Notice) (cs : List ℕ) (f f' : Floor) : Type 0 where
  pub places : f'.cursors ≡ cs
  pub rooms : (n v : ℕ) (sent : List Notice) → Stands n v notices sent f → Stands n v notices sent f' × ((k : ℕ) → k < i → booked k (vec_items f'.book) ≡ to_room k sent)

-- Everything was delivered: in some order that keeps each feed's own, the notices of the v feeds are what the book has, room by room, for n rooms.
abbrev pub Delivered : ℕ → ℕ → List Notice → List Delivery → Type 0
Delivered n v notices book = (sent : List Notice) × (((f : ℕ) → f < v → of_feed f sent ≡ of_feed f notices) × ((k : ℕ) → k < n → booked k book ≡ to_room k sent))

-- all that the floor stands for was delivered, from so many feeds to so many rooms
abbrev pub Settles : ℕ → ℕ → List Notice → Floor → Floor → Type 0
Settles rooms feeds notices f f' = (n v : ℕ) (sent : List Notice) → Stands n v notices sent f → Delivered rooms feeds notices (vec_items f'.book)

-- from one floor to the next by calls alone: what stood still stands, with some more notices accepted
abbrev pub Onward : List Notice → Floor → Floor → Type 0
Onward notices f f' = (n v : ℕ) (sent : List Notice) → Stands n v notices sent f → (sent' : List Notice) × Stands n v notices sent' f'

-- a run goes on over the same notices
abbrev pub Goes : Run → Run → Type 0
Goes r r' = (r'.notices.now ≡ r.notices.now) × Onward r.notices.now r.floor r'.floor
