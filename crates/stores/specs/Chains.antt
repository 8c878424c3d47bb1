-- The chains of batches: what the nodes and the entries of a store's memory represent. Assumes nothing.
use Rattle.std.specs.Prelude.{◌≡◌, ℕ, zero, suc, ◌+◌, ◌-◌, ◌*◌, ◌^◌, ◌<◌, ◌≤◌, true, false, cond, List, [], ◌∷◌, ◌++◌, length, Some, None, Ok, Err, sum_by, Option, Result, ◌==◌, ◌≢◌, nat_lt, slice_index, slice_index_or, slice_set}
use Rattle.std.specs.List.{remove}
use Rattle.resources.specs.declared.cause.Cause.{Cause}
use Rattle.resources.specs.declared.cause.Cause.TheVariants.{Misuse}
use Rattle.stores.specs.declared.node.Node.{Node}
use Rattle.stores.specs.declared.node.Entry.{Entry}

abbrev pub blank_node : Node
blank_node = record { owner = 0; place = 0; back = 0; jump = 0; start = 0; length = 0 }

abbrev pub blank_entry : Entry
blank_entry = record { number = 0; live = false; last = 0; len = 0 }

abbrev pub node : List Node → ℕ → Node
node ns b = slice_index_or ns b blank_node

abbrev pub entry : List Entry → ℕ → Entry
entry es i = slice_index_or es i blank_entry

-- how long the chain of a number is; 0 where there is none
abbrev pub len_of : List Entry → ℕ → ℕ
len_of [] n = 0
len_of (e ∷ es) n = cond (e.number == n) e.len (len_of es n)

-- what n nodes hold, from x back to the first, in the order from the first to x
abbrev pub walk : (ℕ → ℕ) → (ℕ → List ℕ) → ℕ → ℕ → List (List ℕ)
walk back val x zero = []
walk back val x (suc n) = walk back val (back x) n ++ val x ∷ []

module _ (ns : List Node) (es : List Entry) where
  -- each node stands in the chain of its number
  abbrev pub Owned : Type 0
  Owned = (b : ℕ) → b < length ns → (node ns b).place < len_of es (node ns b).owner

  -- the node before
  abbrev pub Backed : Type 0
  Backed = (b : ℕ) → b < length ns → ((node ns b).back < length ns) × ((node ns (node ns b).back).owner ≡ (node ns b).owner) × ((node ns (node ns b).back).place ≡ (node ns b).place - 1)

  -- a node before, or far before
  abbrev pub Jumps : Type 0
  Jumps = (b : ℕ) → b < length ns → ((node ns b).jump < length ns) × ((node ns (node ns b).jump).owner ≡ (node ns b).owner) × ((node ns (node ns b).jump).place ≤ (node ns b).place - 1)

  -- the last node of each entry's chain
  abbrev pub Lasts : Type 0
  Lasts = (i : ℕ) → i < length es → 0 < (entry es i).len →
      ((entry es i).last < length ns) × ((node ns (entry es i).last).owner ≡ (entry es i).number) × ((node ns (entry es i).last).place + 1 ≡ (entry es i).len)

  -- no two nodes have one place of one chain
  abbrev pub Single : Type 0
  Single = (b c : ℕ) → (b < length ns) × (c < length ns) × ((node ns b).owner ≡ (node ns c).owner) × ((node ns b).place ≡ (node ns c).place) → b ≡ c

  -- no two entries have one number
  abbrev pub Apart : Type 0
  Apart = (i j : ℕ) → (i < length es) × (j < length es) × ((entry es i).number ≡ (entry es j).number) → i ≡ j

  -- every node is in a chain
  abbrev pub Full : Type 0
  Full = sum_by (λ e. e.len) es ≡ length ns

-- the chains are in good order
pub record Sound (ns : List Node) (es : List Entry) : Type 0 where
  pub owned : Owned ns es
  pub backed : Backed ns es
  pub jumps : Jumps ns es
  pub lasts : Lasts ns es
  pub single : Single ns es
  pub apart : Apart ns es
  pub full : Full ns es

-- the entry without its last node, whose node before is x
abbrev pub shorter : Entry → ℕ → Entry
shorter e x = record e { last = x; len = e.len - 1 }

-- the entry with the node b behind its last
abbrev pub longer : Entry → ℕ → Entry
longer e b = record e { last = b; len = e.len + 1 }

-- the node b as the last of an entry's chain
abbrev pub linked : Entry → ℕ → ℕ → ℕ → ℕ → Node
linked e b jump start n = record { owner = e.number; place = e.len; back = cond (e.len == 0) b e.last; jump = jump; start = start; length = n }

-- the last node of the entry f goes behind the last of the entry t
abbrev pub shifted_nodes : List Node → List Entry → ℕ → ℕ → ℕ → ℕ → ℕ → List Node
shifted_nodes ns es f t jump start n = slice_set ns (entry es f).last (linked (entry es t) (entry es f).last jump start n)

abbrev pub shifted_entries : List Node → List Entry → ℕ → ℕ → List Entry
shifted_entries ns es f t = slice_set (slice_set es f (shorter (entry es f) (node ns (entry es f).last).back)) t (longer (entry es t) (entry es f).last)

-- the jump of a node behind x: twice as far as the jump of x where that and the one after it are equally far, else x
abbrev pub far_of : List Node → ℕ → ℕ
far_of ns x = cond ((node ns x).place - (node ns (node ns x).jump).place == (node ns (node ns x).jump).place - (node ns (node ns (node ns x).jump).jump).place) (node ns (node ns x).jump).jump x

-- the jump of the node that goes from the entry f to the entry t
abbrev pub jump_of : List Node → List Entry → ℕ → ℕ → ℕ
jump_of ns es f t = cond ((entry es t).len == 0) (entry es f).last (far_of ns (entry es t).last)

-- each entry's number is below the next
abbrev pub Numbers : List Entry → ℕ → Type 0
Numbers es next = (i : ℕ) → i < length es → (entry es i).number < next

-- entries that are not in use are empty and open
abbrev pub Unused : List Entry → ℕ → Type 0
Unused es count = (i : ℕ) → (count < i) × (i < length es) → ((entry es i).len ≡ 0) × ((entry es i).live ≡ true)

-- what is free has no words
abbrev pub Idle : List Node → Type 0
Idle ns = (b : ℕ) → (b < length ns) × ((node ns b).owner ≡ 0) → ((node ns b).start ≡ 0) × ((node ns b).length ≡ 0)

-- what a directory keeps, with `count` files and `next` for the next new number
pub record Order (ns : List Node) (es : List Entry) (count next : ℕ) : Type 0 where
  pub sound : Sound ns es
  pub small : length ns ≤ 262144
  pub table : length es ≡ 257
  pub few : count ≤ 256
  pub ends : next ≤ 2 ^ 32
  pub free : (entry es 0).number ≡ 0
  pub numbers : Numbers es next
  pub unused : Unused es count
  pub idle : Idle ns

-- no batch has more than 64 words
abbrev pub Short : List Node → Type 0
Short ns = (b : ℕ) → b < length ns → (node ns b).length ≤ 64

-- the entry, finished
abbrev pub closed : Entry → Entry
closed e = record e { live = false }

-- what an entry's chain holds, where v says what a node holds
abbrev pub held : List Node → (ℕ → Node → List ℕ) → Entry → List (List ℕ)
held ns v e = walk (λ c. (node ns c).back) (λ c. v c (node ns c)) e.last e.len

-- the entry i lost batches; every other file stays, and no node has more words than it had
pub record Cleared (ns : List Node) (es : List Entry) (i : ℕ) (ms : List Node) (ds : List Entry) : Type 0 where
  pub nodes : length ms ≡ length ns
  pub entries : length ds ≡ length es
  pub number : (j : ℕ) → (entry ds j).number ≡ (entry es j).number
  pub live : (j : ℕ) → (entry ds j).live ≡ (entry es j).live
  pub others : (v : ℕ → Node → List ℕ) (j : ℕ) → 0 < j → j < length es → (j ≢ i) → held ms v (entry ds j) ≡ held ns v (entry es j)
  pub words : (b : ℕ) → ((node ms b).length ≤ (node ns b).length) × ((node ms b).start + (node ms b).length ≤ (node ns b).start + (node ns b).length)

-- the number for an entry that is freed: the next, or the one that it had
abbrev pub renewed : ℕ → ℕ → ℕ
renewed next old = cond (nat_lt next (2 ^ 32)) next old

abbrev pub next_after : ℕ → ℕ
next_after next = cond (nat_lt next (2 ^ 32)) (next + 1) next

-- an entry for a file to come
abbrev pub spare : ℕ → Entry
spare n = record { number = n; live = true; last = 0; len = 0 }

-- the entries without the one at i, and one more at the end
abbrev pub closed_up : List Entry → ℕ → ℕ → List Entry
closed_up es i n = remove es i ++ spare n ∷ []

-- the node b where all are free
abbrev pub free_node : ℕ → Node
free_node b = record { owner = 0; place = b; back = b - 1; jump = b - 1; start = 0; length = 0 }

-- a table without files, with n free nodes
pub record Blank (n : ℕ) (es : List Entry) : Type 0 where
  pub table : length es ≡ 257
  pub free : entry es 0 ≡ record (spare 0) { last = n - 1; len = n }
  pub files : (i : ℕ) → 0 < i → i < 257 → entry es i ≡ spare i
  pub total : sum_by (λ e. e.len) es ≡ n

-- the place of an entry in use
abbrev pub InUse : ℕ → ℕ → Type 0
InUse count i = (0 < i) × (i ≤ count)

-- the place of the entry in use with the number n; or none in use has it
abbrev pub Sought : List Entry → ℕ → ℕ → Option ℕ → Type 0
Sought es count n None = (i : ℕ) → 0 < i → i ≤ count → (entry es i).number ≢ n
Sought es count n (Some i) = (0 < i) × (i ≤ count) × ((entry es i).number ≡ n)

-- the place of the open entry in use with the number n; or none in use with it is open
abbrev pub SoughtOpen : List Entry → ℕ → ℕ → Result ℕ Cause → Type 0
SoughtOpen es count n (Ok i) = (0 < i) × (i ≤ count) × ((entry es i).number ≡ n) × ((entry es i).live ≡ true)
SoughtOpen es count n (Err c) = (c ≡ Misuse) × ((i : ℕ) → 0 < i → i ≤ count → (entry es i).number ≡ n → (entry es i).live ≡ false)

-- the node of batch k of the file n, in an entry in use; or no entry in use with the number has as many
abbrev pub Located : List Node → List Entry → ℕ → ℕ → ℕ → Result ℕ Cause → Type 0
Located ns es count n k (Ok b) = (i : ℕ) × (0 < i) × (i ≤ count) × ((entry es i).number ≡ n) × (k < (entry es i).len) × (b < length ns) × ((node ns b).owner ≡ n) × ((node ns b).place ≡ k)
Located ns es count n k (Err c) = (c ≡ Misuse) × ((i : ℕ) → 0 < i → i ≤ count → (entry es i).number ≡ n → (entry es i).len ≤ k)

-- the words of every node lie before the end
abbrev pub Below : List Node → ℕ → Type 0
Below ns end = (b : ℕ) → b < length ns → (node ns b).start + (node ns b).length ≤ end

-- a zero word stands at the end, if it fits
abbrev pub Marked : List ℕ → ℕ → Type 0
Marked words end = end < length words → slice_index words end ≡ 0

-- what a log store keeps, whose run of records ends at `end`
pub record Run (ns : List Node) (es : List Entry) (words : List ℕ) (end : ℕ) : Type 0 where
  pub within : end ≤ length words
  pub low : Below ns end
  pub short : Short ns
  pub mark : Marked words end
  pub enough : length words ≤ length ns * 3 + 2
  pub thin : length ns * 3 ≤ end + (entry es 0).len * 3
