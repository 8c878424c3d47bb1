-- What channels mean: queues and waiting entries as lists. Assumes nothing.
use Rattle.std.specs.Prelude.{ℕ, ◌+◌, Bool, true, false, cond, ◌&&◌, List, [], ◌∷◌, ◌++◌, map, length, drop, replicate, ◌==◌, nat_lt, slice_index_or, slice_set}
use Rattle.distributor_channels.specs.declared.Entry.{Entry}

-- one channel: what was accepted and not yet received, oldest first; who waits to receive; is the receiver open; how many senders are
pub record Chan (T : Type 0) : Type 0 where
  pub queue : List T
  pub receiving : List Entry
  pub receiver : Bool
  pub senders : ℕ

-- all channels, and who waits at the gate
pub record Meaning (T : Type 0) : Type 0 where
  pub chans : List (Chan T)
  pub sending : List Entry

-- what a call finds in the memories besides: are their lengths right, how many waiting places are free, and how many cells
pub record Facts : Type 0 where
  pub fit : Bool
  pub places : ℕ
  pub cells : ℕ

-- what a call gives: its answer, the wakers that it names, in order, and the meaning after
pub record Out (T A : Type 0) : Type 0 where
  pub answer : A
  pub named : List ℕ
  pub next : Meaning T

abbrev pub bit : Bool → ℕ
bit b = cond b 1 0

abbrev pub entry : ℕ → ℕ → Entry
entry w k = record { waker = w; channel = k }

-- the wakers of entries
abbrev pub wakers : List Entry → List ℕ
wakers es = map (λ e. e.waker) es

-- the entry waits on the channel k
abbrev pub on : ℕ → Entry → Bool
on k e = e.channel == k

-- the woken list with the named wakers at its front; its rest stays
abbrev pub onto : List ℕ → List ℕ → List ℕ
onto named w = named ++ drop (length named) w

module _ {T : Type 0} where
  abbrev pub none : List T → Bool
  none [] = true
  none (x ∷ xs) = false

  -- a channel counts as open that has an open receiver, an open sender and an empty queue
  abbrev pub is_open : Chan T → Bool
  is_open c = c.receiver && (nat_lt 0 c.senders && none c.queue)

  -- the open count: how many channels count as open
  abbrev pub open_count : List (Chan T) → ℕ
  open_count [] = 0
  open_count (c ∷ cs) = bit (is_open c) + open_count cs

  -- a channel without either side stands where there is none
  abbrev pub shut : Chan T
  shut = record { queue = []; receiving = []; receiver = false; senders = 0 }

  abbrev pub chan : Meaning T → ℕ → Chan T
  chan m k = slice_index_or m.chans k shut

  -- changes, one for each part
  abbrev pub with_queue : List T → Chan T → Chan T
  with_queue xs c = record { queue = xs; receiving = c.receiving; receiver = c.receiver; senders = c.senders }

  abbrev pub with_receiving : List Entry → Chan T → Chan T
  with_receiving es c = record { queue = c.queue; receiving = es; receiver = c.receiver; senders = c.senders }

  abbrev pub with_senders : ℕ → Chan T → Chan T
  with_senders n c = record { queue = c.queue; receiving = c.receiving; receiver = c.receiver; senders = n }

  -- without its receiver, a channel has no queue
  abbrev pub unheard : Chan T → Chan T
  unheard c = record { queue = []; receiving = c.receiving; receiver = false; senders = c.senders }

  abbrev pub with_chan : ℕ → Chan T → Meaning T → Meaning T
  with_chan k c m = record { chans = slice_set m.chans k c; sending = m.sending }

  abbrev pub with_sending : List Entry → Meaning T → Meaning T
  with_sending es m = record { chans = m.chans; sending = es }

  abbrev pub out : {A : Type 0} → A → List ℕ → Meaning T → Out T A
  out a ws m = record { answer = a; named = ws; next = m }

  -- n channels just opened, with v senders each
  abbrev pub opened : ℕ → ℕ → Meaning T
  opened n v = record { chans = replicate n (record { queue = []; receiving = []; receiver = true; senders = v }); sending = [] }
