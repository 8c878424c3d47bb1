-- What ties channels and memories to their meaning, and what the calls promise. Assumes nothing.
use Rattle.std.specs.Prelude.{◌≡◌, ℕ, ◌≤◌, Bool, true, false, cond, ◌&&◌, ◌||◌, List, ◌∷◌, ◌++◌, map, length, take, count_by, is_some, is_ok, Some, None, Ok, Err, Option, Result, MatchResult, ◌==◌, nat_le, nat_lt}
use Rattle.refusal.specs.declared.Refusal.{Refusal}
use Rattle.refusal.specs.declared.Refusal.TheVariants.{Lengths, Range}
use Rattle.bank.specs.declared.Queue.{Queue}
use Rattle.bank.specs.Cells.{at, empty}
use Rattle.bank.specs.Banks.{Mem, view, size, freed, Keeps}
use Rattle.distributor_channels.specs.declared.Entry.{Entry}
use Rattle.distributor_channels.specs.declared.Channel.{Channel}
use Rattle.distributor_channels.specs.declared.Channels.{Channels}
use Rattle.distributor_channels.specs.declared.Memories.{Memories}
use Rattle.distributor_channels.specs.Meaning.{Chan, Meaning, Facts, Out, onto, open_count, opened}
use Rattle.distributor_channels.specs.declared.SendPoll.TheVariants.{Sent, Wait, Closed}
use Rattle.distributor_channels.specs.Steps.{SendAnswer}
use Rattle.distributor_channels.specs.Histories.{Event, Run, Laws}

-- the records in use
abbrev pub records : Channels → List Channel
records c = take c.n c.table

-- the record that stands where there is none
abbrev pub shut_record : Channel
shut_record = record { queue = None; receiving = empty; senders = 0 }

-- a channel's queue, which is gone with its receiver
abbrev pub line_of : Option Queue → Queue
line_of None = empty
line_of (Some q) = q

-- does a record count as open?
abbrev pub record_open : Channel → Bool
record_open r = is_some r.queue && (nat_lt 0 r.senders && (line_of r.queue).len == 0)

abbrev pub tallied : List Channel → ℕ
tallied rs = count_by record_open rs

-- the memories without the loans
pub record Mems (T : Type 0) : Type 0 where
  pub elements : Mem T
  pub entries : Mem Entry
  pub woken : List ℕ

-- queues of others in the two banks, with what they hold
pub record Others (T : Type 0) : Type 0 where
  pub waits : List Queue
  pub waiting : List (List Entry)
  pub lines : List Queue
  pub queued : List (List T)

-- what a record and its meaning have in common as they stand
pub record Mark : Type 0 where
  pub receiver : Bool
  pub senders : ℕ

abbrev pub mark_of : Channel → Mark
mark_of r = record { receiver = is_some r.queue; senders = r.senders }

-- the lengths are those of the opening, and the woken list has room for all who could be named
abbrev pub fits : Channels → ℕ → ℕ → ℕ → Bool
fits c cells places woken = c.cells == cells && (c.places == places && nat_le places woken)

-- 1 to 65,535 message cells, 1 to 4,096 waiting places, and a woken list that has room for as many
abbrev pub within : ℕ → ℕ → ℕ → Bool
within cells places woken = nat_le 1 cells && (nat_le cells 65535 && (nat_le 1 places && (nat_le places 4096 && nat_le places woken)))

-- why an opening is refused: lengths first, then more than 32 channels, or other than 1 to 32 senders
abbrev pub unopened : ℕ → ℕ → ℕ → ℕ → ℕ → Option Refusal
unopened cells places woken n v = cond (within cells places woken) (cond (nat_lt 32 n || (nat_lt v 1 || nat_lt 32 v)) (Some Range) None) (Some Lengths)

module _ {T : Type 0} where
  abbrev pub seen : Memories T → Mems T
  seen ms = record { elements = view ms.elements; entries = view ms.entries; woken = ms.woken.list.now }

  abbrev pub mark : Chan T → Mark
  mark c = record { receiver = c.receiver; senders = c.senders }

  -- the sending queue s, the records rs and the count n over two memories mean m; the queues of others come behind
  pub record Stands (s : Queue) (rs : List Channel) (n : ℕ) (em : Mem Entry) (xm : Mem T) (o : Others T) (m : Meaning T) : Type 0 where
    pub waiting : Keeps em (s ∷ (map (λ r. r.receiving) rs ++ o.waits)) (m.sending ∷ (map (λ c. c.receiving) m.chans ++ o.waiting))
    pub queued : Keeps xm (map (λ r. line_of r.queue) rs ++ o.lines) (map (λ c. c.queue) m.chans ++ o.queued)
    pub marks : map mark_of rs ≡ map mark m.chans
    -- the count kept is the open count by its definition
    pub count : n ≡ open_count m.chans
    pub few : length m.chans ≤ 32

  -- channels and memories mean m, beside queues of others
  unfoldable pub Represents : Channels → Mems T → Others T → Meaning T → Type 0
  Represents c ms o m = Stands c.sending (records c) c.count ms.entries ms.elements o m

  -- what a call finds in the memories
  abbrev pub facts : Channels → Mems T → Facts
  facts c ms = record { fit = fits c (size ms.elements) (size ms.entries) (length ms.woken); places = freed ms.entries; cells = freed ms.elements }

  -- Answer, woken list and meaning are what the step gives, whatever else the memories hold; and a refused call leaves all as it was.
  abbrev pub Does : {A E : Type 0} → (Facts → Meaning T → Out T (Result A E)) → Channels → Mems T → Channels → Mems T → Result A E → Type 0
  Does step c ms c' ms' r = (o : Others T) (m : Meaning T) → Represents c ms o m →
      (r ≡ (step (facts c ms) m).answer)
      × (ms'.woken ≡ onto (step (facts c ms) m).named ms.woken)
      × Represents c' ms' o (step (facts c ms) m).next
      × (is_ok r ≡ false → (c' ≡ c) × (ms' ≡ ms))

  -- The call with its answer and the wakers that it named makes every history that led here longer by one, and the laws hold of that.
  abbrev pub Chronicles : {A E : Type 0} → (Result A E → List ℕ → Event T) → (Facts → Meaning T → Out T (Result A E)) → Channels → Mems T → Result A E → Type 0
  Chronicles call step c ms r = (n v : ℕ) (h : List (Event T)) (o : Others T) (m : Meaning T) → Represents c ms o m → Run n v h m →
      Run n v (call r (step (facts c ms) m).named ∷ h) (step (facts c ms) m).next × Laws n v (call r (step (facts c ms) m).named ∷ h) (step (facts c ms) m).next

  -- where the lengths are wrong, whatever the memories hold: this answer, and no change
  abbrev pub Unfit : {A : Type 0} → A → Channels → Mems T → Channels → Mems T → A → Type 0
  Unfit a c ms c' ms' r = (facts c ms).fit ≡ false → (r ≡ a) × (c' ≡ c) × (ms' ≡ ms)

  -- whatever the memories hold: the element that was passed lies in a message cell, or it came back
  abbrev pub Kept : Mems T → T → SendAnswer T → Type 0
  Kept ms x (Ok (Sent _)) = (i : ℕ) × ((at ms.elements.cells i).item ≡ Some x)
  Kept ms x (Ok (Wait y)) = y ≡ x
  Kept ms x (Ok (Closed y)) = y ≡ x
  Kept ms x (Err r) = r.element ≡ x

  -- the loans are the same
  abbrev pub Same : Memories T → Memories T → Type 0
  Same ms ms' = (ms'.elements.cells.ghost_name ≡ ms.elements.cells.ghost_name) × (ms'.entries.cells.ghost_name ≡ ms.entries.cells.ghost_name) × (ms'.woken.list.ghost_name ≡ ms.woken.list.ghost_name)

  -- what no call changes
  pub record Steady (c : Channels) (ms : Mems T) (c' : Channels) (ms' : Mems T) : Type 0 where
    pub n : c'.n ≡ c.n
    pub channels : length (records c') ≡ length (records c)
    pub places : c'.places ≡ c.places
    pub cells : c'.cells ≡ c.cells
    pub elements : size ms'.elements ≡ size ms.elements
    pub entries : size ms'.entries ≡ size ms.entries
    pub woken : length ms'.woken ≡ length ms.woken

  -- n channels with v senders each are opened over the memories, or the smallest reason why not is given
  abbrev pub Opens : Mems T → ℕ → ℕ → Result Channels Refusal → Type 0
  Opens ms n v r = MatchResult r
      (λ c. (unopened (size ms.elements) (size ms.entries) (length ms.woken) n v ≡ None) × ((facts c ms).fit ≡ true)
      × ((o : Others T) → Keeps ms.entries o.waits o.waiting → Keeps ms.elements o.lines o.queued → Represents c ms o (opened n v)))
      (λ why. unopened (size ms.elements) (size ms.entries) (length ms.woken) n v ≡ Some why)

  -- the count by its definition, which is the count kept
  abbrev pub Recounts : Channels → Mems T → ℕ → Type 0
  Recounts c ms r = (o : Others T) (m : Meaning T) → Represents c ms o m → (r ≡ open_count m.chans) × (r ≡ c.count)
