-- The files of a directory, and what exactly its calls answer, whatever its nodes hold. Assumes nothing.
use Rattle.std.specs.Prelude.{◌≡◌, ℕ, ◌+◌, ◌-◌, ◌/◌, ◌<◌, ◌≤◌, Bool, true, false, cond, ◌&&◌, List, [], ◌∷◌, map, length, drop, take, Some, None, Ok, Err, vec_items, sum_by, Option, Result, ◌==◌, ◌≢◌, nat_eq, nat_lt, ◌⊎◌, slice_set}
use Rattle.std.specs.List.{find}
use Rattle.std.specs.Option.{option_map}
use Rattle.resources.specs.declared.cause.Cause.{Cause}
use Rattle.resources.specs.declared.cause.Cause.TheVariants.{NoSpace, Misuse}
use Rattle.stores.specs.declared.node.Node.{Node}
use Rattle.stores.specs.declared.node.Entry.{Entry}
use Rattle.stores.specs.declared.directory.Directory.{Directory}
use Rattle.resources.specs.Files.{File, Files, live_at, batch_at, length_ok, may_append, CreateLawful, create_after, FinishLawful, finish_after, remove_after, Ask, create, append, finish, read, remove, Reply, number, numbered, done, failed, finished}
use Rattle.stores.specs.Chains.{node, entry, held, closed, free_node, Blank}

-- the files in use, in the order of their creation
abbrev pub in_use : List Entry → ℕ → List Entry
in_use es count = take count (drop 1 es)

-- their numbers
abbrev pub numbers_of : List Entry → ℕ → List ℕ
numbers_of es count = map (λ e. e.number) (in_use es count)

-- the file of an entry, where v says what a node holds
abbrev pub file_of : List Node → (ℕ → Node → List ℕ) → Entry → File
file_of ns v e = record { live = e.live; batches = held ns v e }

abbrev pub files_of : List Node → (ℕ → Node → List ℕ) → List Entry → ℕ → List File
files_of ns v es count = map (file_of ns v) (in_use es count)

-- the value beside the first key that is n
abbrev pub lookup : {X : Type 0} → List ℕ → List X → ℕ → Option X
lookup [] vs n = None
lookup (k ∷ ks) [] n = None
lookup (k ∷ ks) (v ∷ vs) n = cond (nat_eq n k) (Some v) (lookup ks vs n)

-- the file of each number: that of the first entry in use that has it
abbrev pub files_in : List Node → (ℕ → Node → List ℕ) → List Entry → ℕ → Files
files_in ns v es count = λ n. option_map (file_of ns v) (find (λ e. e.number == n) (in_use es count))

-- how many files there are, and how many batches in all of them
pub record Load : Type 0 where
  pub files : ℕ
  pub batches : ℕ

abbrev pub load_of : List File → Load
load_of fs = record { files = length fs; batches = sum_by (λ f. length f.batches) fs }

-- a file less
abbrev pub without : Load → Option File → Load
without m None = m
without m (Some f) = record { files = m.files - 1; batches = m.batches - length f.batches }

-- what a call makes of it
abbrev pub load_after : Load → Files → Ask → Reply → Load
load_after m fs create (number n) = record m { files = m.files + 1 }
load_after m fs create done = m
load_after m fs create (failed c) = m
load_after m fs (append n ws) (number k) = m
load_after m fs (append n ws) done = record m { batches = m.batches + 1 }
load_after m fs (append n ws) (failed c) = m
load_after m fs (finish n) r = m
load_after m fs (read n k) r = m
load_after m fs (remove n) r = without m (fs n)

-- what decides the answer: the files, how many there are, the number for the next, and whether a batch finds space
pub record View : Type 0 where
  pub files : Files
  pub load : Load
  pub new : ℕ
  pub space : List ℕ → Bool

-- the length of the batch, or misuse
abbrev pub read_reply : Option (List ℕ) → Reply
read_reply None = failed Misuse
read_reply (Some ws) = number (length ws)

-- the answer: no space exactly with 256 files, or at a lawful append without space; misuse exactly at a call that is not allowed; the device never fails
abbrev pub answer : View → Ask → Reply
answer m create = cond (nat_lt m.load.files 256) (number m.new) (failed NoSpace)
answer m (append n ws) = cond (may_append m.files n ws) (cond (m.space ws) done (failed NoSpace)) (failed Misuse)
answer m (finish n) = cond (live_at (m.files n)) done (failed Misuse)
answer m (read n k) = read_reply (batch_at (m.files n) k)
answer m (remove n) = done

-- a remove that takes the last file away leaves none
abbrev pub restarts : Load → Option File → Bool
restarts m None = false
restarts m (Some f) = m.files == 1

-- the files of a directory, where v says what a node holds
abbrev pub dir_files : Directory → (ℕ → Node → List ℕ) → Files
dir_files d v = files_in (vec_items d.nodes) v d.entries d.count

abbrev pub dir_load : Directory → (ℕ → Node → List ℕ) → Load
dir_load d v = load_of (files_of (vec_items d.nodes) v d.entries d.count)

abbrev pub dir_view : Directory → (ℕ → Node → List ℕ) → (List ℕ → Bool) → View
dir_view d v space = record { files = dir_files d v; load = dir_load d v; new = (entry d.entries (d.count + 1)).number; space = space }

-- a directory without files, and with n nodes
pub record Opened (n : ℕ) (d : Directory) : Type 0 where
  pub count : d.count ≡ 0
  pub next : d.next ≡ 257
  pub size : length (vec_items d.nodes) ≡ n
  pub blank : Blank n d.entries
  pub free : (b : ℕ) → b < n → node (vec_items d.nodes) b ≡ free_node b

-- not too many words, and a node for each stretch of so many
abbrev pub FitFor : ℕ → ℕ → ℕ → Type 0
FitFor each w n = (w ≤ 262144) × (n ≡ w / each)

-- too many words, or not a node for each stretch of so many
abbrev pub UnfitFor : ℕ → ℕ → ℕ → Type 0
UnfitFor each w n = (262144 < w) ⊎ (n ≢ w / each)

-- a create: the next entry goes into use, if there is one, whatever the nodes hold
pub record Creates (d : Directory) (r : Result ℕ Cause) (t : Directory) : Type 0 where
  pub made : r ≡ cond (nat_lt d.count 256) (Ok (entry d.entries (d.count + 1)).number) (Err NoSpace)
  pub count : t.count ≡ cond (nat_lt d.count 256) (d.count + 1) d.count
  pub entries : t.entries ≡ d.entries
  pub nodes : vec_items t.nodes ≡ vec_items d.nodes
  pub next : t.next ≡ d.next
  pub lawful : (v : ℕ → Node → List ℕ) → CreateLawful (dir_files d v) r
  pub after : (v : ℕ → Node → List ℕ) → dir_files t v ≡ create_after (dir_files d v) r
  pub reply : (v : ℕ → Node → List ℕ) (space : List ℕ → Bool) → numbered r ≡ answer (dir_view d v space) create
  pub load : (v : ℕ → Node → List ℕ) → dir_load t v ≡ load_after (dir_load d v) (dir_files d v) create (numbered r)

-- only the entry of the file n is marked, or none
abbrev pub Marks : {U : Type 0} → Directory → ℕ → Result U Cause → List Entry → Type 0
Marks d n (Ok u) ds = (i : ℕ) × (0 < i) × (i ≤ d.count) × ((entry d.entries i).number ≡ n) × (ds ≡ slice_set d.entries i (closed (entry d.entries i)))
Marks d n (Err c) ds = ds ≡ d.entries

-- a finish: the file's entry is marked, if it is open, whatever the nodes hold
pub record Finishes (d : Directory) (n : ℕ) {U : Type 0} (r : Result U Cause) (t : Directory) : Type 0 where
  pub marks : Marks d n r t.entries
  pub count : t.count ≡ d.count
  pub nodes : vec_items t.nodes ≡ vec_items d.nodes
  pub next : t.next ≡ d.next
  pub free : (entry t.entries 0).len ≡ (entry d.entries 0).len
  pub lawful : (v : ℕ → Node → List ℕ) → FinishLawful (dir_files d v) n r
  pub after : (v : ℕ → Node → List ℕ) → dir_files t v ≡ finish_after (dir_files d v) n r
  pub reply : (v : ℕ → Node → List ℕ) (space : List ℕ → Bool) → finished r ≡ answer (dir_view d v space) (finish n)
  pub load : (v : ℕ → Node → List ℕ) → dir_load t v ≡ dir_load d v

-- a remove, whatever the nodes hold: r says whether there was such a file, and no node has more words than it had
pub record Removes (d : Directory) (n : ℕ) (r : Bool) (t : Directory) : Type 0 where
  pub after : (v : ℕ → Node → List ℕ) → dir_files t v ≡ remove_after (dir_files d v) n
  pub load : (v : ℕ → Node → List ℕ) → dir_load t v ≡ without (dir_load d v) (dir_files d v n)
  pub last : (v : ℕ → Node → List ℕ) → restarts (dir_load d v) (dir_files d v n) ≡ (r && nat_eq t.count 0)
  pub size : length (vec_items t.nodes) ≡ length (vec_items d.nodes)
  pub words : (b : ℕ) → ((node (vec_items t.nodes) b).length ≤ (node (vec_items d.nodes) b).length) × ((node (vec_items t.nodes) b).start + (node (vec_items t.nodes) b).length ≤ (node (vec_items d.nodes) b).start + (node (vec_items d.nodes) b).length)

-- the place of the file that the batch may be appended to; or it may not be appended
abbrev pub OpensFor : Directory → ℕ → List ℕ → Result ℕ Cause → Type 0
OpensFor d n ws (Ok i) = (0 < i) × (i ≤ d.count) × ((entry d.entries i).number ≡ n) × (length_ok ws ≡ true) × ((v : ℕ → Node → List ℕ) → live_at (dir_files d v n) ≡ true)
OpensFor d n ws (Err c) = (c ≡ Misuse) × ((v : ℕ → Node → List ℕ) → may_append (dir_files d v) n ws ≡ false)
