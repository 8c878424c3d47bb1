-- What the delivered stores hold, and exactly what they answer. Assumes nothing.
use Rattle.std.specs.Prelude.{◌≡◌, ℕ, ◌+◌, ◌*◌, ◌/◌, cond, List, ◌∷◌, length, take, drop, None, vec_items, nat_le, nat_lt, slice_set}
use Rattle.std.proofs.Math.Seq.{paste}
use Rattle.stores.specs.declared.node.Node.{Node}
use Rattle.stores.specs.declared.block.BlockStore.{BlockStore}
use Rattle.stores.specs.declared.log.LogStore.{LogStore}
use Rattle.resources.specs.Files.{Files, Ask, create, append, finish, read, remove, Reply, number, done, failed}
use Rattle.stores.specs.Filed.{Load, load_after, View, answer, restarts, dir_files, dir_load, dir_view, FitFor, UnfitFor}

-- the words of a block: block c begins at the word 64 c
abbrev pub block_val : List ℕ → ℕ → Node → List ℕ
block_val words c nd = take nd.length (drop (c * 64) words)

-- the files of a block store
abbrev pub block_files : BlockStore → Files
block_files s = dir_files s.dir (block_val (vec_items s.memory.words))

abbrev pub block_load : BlockStore → Load
block_load s = dir_load s.dir (block_val (vec_items s.memory.words))

-- how many blocks there are
abbrev pub blocks : BlockStore → ℕ
blocks s = length (vec_items s.dir.nodes)

-- a batch finds space while a block is free
abbrev pub block_view : BlockStore → View
block_view s = dir_view s.dir (block_val (vec_items s.memory.words)) (λ ws. nat_lt (block_load s).batches (blocks s))

-- what exactly a call of a block store does
pub record BlockSteps (s : BlockStore) (a : Ask) (r : Reply) (t : BlockStore) : Type 0 where
  pub reply : r ≡ answer (block_view s) a
  pub load : block_load t ≡ load_after (block_load s) (block_files s) a r
  pub size : blocks t ≡ blocks s

-- a block store as it is made over w words: no files, and a block for each 64 words
pub record BlockOpened (w : ℕ) (s : BlockStore) : Type 0 where
  pub files : (k : ℕ) → block_files s k ≡ None
  pub load : block_load s ≡ record { files = 0; batches = 0 }
  pub size : blocks s ≡ w / 64

-- not too many words, and a node for each block
abbrev pub Fit : ℕ → ℕ → Type 0
Fit = FitFor 64

-- too many words, or not a node for each block
abbrev pub Unfit : ℕ → ℕ → Type 0
Unfit = UnfitFor 64

-- a record: the number of the file, the length, and then the words
abbrev pub record_of : ℕ → List ℕ → List ℕ
record_of n ws = n ∷ length ws ∷ ws

-- a zero word at the place, if it is there
abbrev pub zeroed : List ℕ → ℕ → List ℕ
zeroed m at = slice_set m at 0

-- the words with a record from `at` on, and a zero word behind it, if it fits
abbrev pub recorded : List ℕ → ℕ → ℕ → List ℕ → List ℕ
recorded m at n ws = zeroed (paste (slice_set (slice_set m at n) (at + 1) (length ws)) (at + 2) ws (length ws)) (at + 2 + length ws)

-- the words that a record's node has
abbrev pub log_val : List ℕ → ℕ → Node → List ℕ
log_val words c nd = take nd.length (drop nd.start words)

-- the files of a log store
abbrev pub log_files : LogStore → Files
log_files s = dir_files s.dir (log_val (vec_items s.memory.words))

abbrev pub log_load : LogStore → Load
log_load s = dir_load s.dir (log_val (vec_items s.memory.words))

-- all its words
abbrev pub log_words : LogStore → List ℕ
log_words s = vec_items s.memory.words

-- a batch finds space while what is left of the run has room for two words and the batch
abbrev pub log_view : LogStore → View
log_view s = dir_view s.dir (log_val (vec_items s.memory.words)) (λ ws. nat_le (s.end + 2 + length ws) (length (log_words s)))

-- where the next record begins after a call
abbrev pub end_after : ℕ → Load → Files → Ask → Reply → ℕ
end_after end m fs create r = end
end_after end m fs (append n ws) (number k) = end
end_after end m fs (append n ws) done = end + 2 + length ws
end_after end m fs (append n ws) (failed c) = end
end_after end m fs (finish n) r = end
end_after end m fs (read n k) r = end
end_after end m fs (remove n) r = cond (restarts m (fs n)) 0 end

-- the words after a call: an append writes a record at the end, a restart a zero word at the start
abbrev pub words_after : List ℕ → ℕ → Load → Files → Ask → Reply → List ℕ
words_after words end m fs create r = words
words_after words end m fs (append n ws) (number k) = words
words_after words end m fs (append n ws) done = recorded words end n ws
words_after words end m fs (append n ws) (failed c) = words
words_after words end m fs (finish n) r = words
words_after words end m fs (read n k) r = words
words_after words end m fs (remove n) r = cond (restarts m (fs n)) (zeroed words 0) words

-- what exactly a call of a log store does
pub record LogSteps (s : LogStore) (a : Ask) (r : Reply) (t : LogStore) : Type 0 where
  pub reply : r ≡ answer (log_view s) a
  pub load : log_load t ≡ load_after (log_load s) (log_files s) a r
  pub end : t.end ≡ end_after s.end (log_load s) (log_files s) a r
  pub words : log_words t ≡ words_after (log_words s) s.end (log_load s) (log_files s) a r

-- a log store as it is made over words: no files, and an empty run
pub record LogOpened (given : List ℕ) (s : LogStore) : Type 0 where
  pub files : (k : ℕ) → log_files s k ≡ None
  pub load : log_load s ≡ record { files = 0; batches = 0 }
  pub end : s.end ≡ 0
  pub words : log_words s ≡ zeroed given 0

-- not too many words, and a node for each of the shortest records that find room
abbrev pub Fitting : ℕ → ℕ → Type 0
Fitting = FitFor 3

-- too many words, or not a node for each of the shortest records that find room
abbrev pub Unfitting : ℕ → ℕ → Type 0
Unfitting = UnfitFor 3
