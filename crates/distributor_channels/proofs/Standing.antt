-- What one changed record does to what is represented. Assumes nothing.
use Rattle.std.proofs.Common.{◌≡◌, ℕ, zero, suc, ◌+◌, ◌<◌, ◌≤◌, Bool, true, false, ◌&&◌, eqb, List, [], ◌∷◌, ◌++◌, map, length, get_or, set, take, is_some, sym, refl, ap, ◌∙◌, arith, length-append, length-set}
use lib.ListN.{length-map}
use Rattle.std.proofs.lemmas.List.{set-get_or, get_or-take, length-take, map-set, get_or-map, get_or_append_left, set-append_left}
use Rattle.std.proofs.lemmas.Bool.{ne_eqb}
use Rattle.refusal.specs.declared.Refusal.{Refusal}
use Rattle.refusal.specs.declared.Refusal.TheVariants.{Lengths, Range}
use Rattle.bank.specs.declared.Queue.{Queue}
use Rattle.bank.specs.Cells.{empty}
use Rattle.bank.specs.Lists.{list}
use Rattle.bank.specs.Banks.{Mem, Is, Keeps}
use Rattle.bank.proofs.Laws.{keeps_len}
use Rattle.distributor_channels.specs.declared.Entry.{Entry}
use Rattle.distributor_channels.specs.declared.Channel.{Channel}
use Rattle.distributor_channels.specs.declared.Channels.{Channels}
use Rattle.distributor_channels.specs.Meaning.{Chan, Meaning, bit, none, is_open, open_count, shut, chan}
use Rattle.distributor_channels.specs.Calls.{records, shut_record, line_of, record_open, Others, Mark, mark_of, mark, Stands}

-- a changed record among the first n
pub take-set : {A : Type 0} (n : ℕ) (l : List A) (k : ℕ) (a : A) → take n (set l k a) ≡ set (take n l) k a
take-set zero l k a = refl
take-set (suc n) [] k a = refl
take-set (suc n) (x ∷ xs) zero a = refl
take-set (suc n) (x ∷ xs) (suc k) a = ap (λ ys. x ∷ ys) (take-set n xs k a)

-- one of the lists in front, and those behind
module _ {A B : Type 0} (f : A → B) (xs : List A) (zs : List B) (k : ℕ) (h : k < length xs) where
  inside : k < length (map f xs)
  inside = rw length-map h

  get_in : (d : A) (e : B) → get_or (map f xs ++ zs) k e ≡ f (get_or xs k d)
  get_in d e = get_or_append_left (map f xs) zs e k inside ∙ get_or-map f xs k d e h

  set_in : (y : A) → set (map f xs ++ zs) k (f y) ≡ map f (set xs k y) ++ zs
  set_in y = set-append_left (map f xs) zs k (f y) inside ∙ ap (λ (ys : List B). ys ++ zs) (sym (map-set f xs k y))

  set-kept : (d : A) (y : B) → f (get_or xs k d) ≡ y → set (map f xs ++ zs) k y ≡ map f xs ++ zs
  set-kept d y e = ap (λ (v : B). set (map f xs ++ zs) k v) (sym e ∙ sym (get_in d y)) ∙ set-get_or (map f xs ++ zs) k y

bit_small : (b : Bool) → bit b ≤ 1
bit_small true = omega arith
bit_small false = omega arith

-- a channel that lacks one of the three does not count
pub no_queue : (a b : Bool) → bit (a && (b && false)) ≡ 0
no_queue true true = refl
no_queue true false = refl
no_queue false b = refl

pub no_sender : (a b : Bool) → bit (a && (false && b)) ≡ 0
no_sender true b = refl
no_sender false b = refl

module _ {T : Type 0} where
  pub none_is : (xs : List T) → none xs ≡ eqb (length xs) 0
  none_is [] = refl
  none_is (x ∷ xs) = sym (ne_eqb (suc (length xs)) 0 (λ z. omega arith))

  pub none-push : (xs : List T) (x : T) → none (xs ++ x ∷ []) ≡ false
  none-push [] x = refl
  none-push (y ∷ ys) x = refl

  count_all : (cs : List (Chan T)) → open_count cs ≤ length cs
  count_all [] = omega arith
  count_all (x ∷ xs) = let r = count_all xs in let b = bit_small (is_open x) in omega arith

  -- one channel changes
  pub count_set : (cs : List (Chan T)) (k : ℕ) (c : Chan T) → k < length cs → open_count (set cs k c) + bit (is_open (get_or cs k shut)) ≡ open_count cs + bit (is_open c)
  count_set [] k c h = absurd (omega arith)
  count_set (x ∷ xs) zero c h = omega arith
  count_set (x ∷ xs) (suc k) c h = let r = count_set xs k c (omega arith) in omega arith

  -- a channel that counts is counted
  pub count_at : (cs : List (Chan T)) (k : ℕ) → k < length cs → bit (is_open (get_or cs k shut)) ≤ open_count cs
  count_at [] k h = absurd (omega arith)
  count_at (x ∷ xs) zero h = omega arith
  count_at (x ∷ xs) (suc k) h = let r = count_at xs k (omega arith) in omega arith

  -- one that does not leaves room
  pub count_room : (cs : List (Chan T)) (k : ℕ) → k < length cs → open_count cs + 1 ≤ length cs + bit (is_open (get_or cs k shut))
  count_room [] k h = absurd (omega arith)
  count_room (x ∷ xs) zero h = let r = count_all xs in omega arith
  count_room (x ∷ xs) (suc k) h = let r = count_room xs k (omega arith) in let b = bit_small (is_open x) in omega arith

  module _ (s : Queue) (rs : List Channel) (n : ℕ) (em : Mem Entry) (xm : Mem T) (o : Others T) (m : Meaning T) (st : Stands s rs n em xm o m) where
    pub same_length : length rs ≡ length m.chans
    same_length = sym (length-map rs mark_of) ∙ ap length st.marks ∙ length-map m.chans mark

    module _ (k : ℕ) (ch : Channel) (h : k < length rs) (ech : ch ≡ get_or rs k shut_record) where
      pub within : k < length m.chans
      within = rw same_length at h

      -- the k-th record and its meaning
      pub same_mark : mark_of ch ≡ mark (chan m k)
      same_mark =
          rw ech (sym (get_or-map mark_of rs k shut_record (mark_of shut_record) h) ∙ ap (λ (l : List Mark). get_or l k (mark_of shut_record)) st.marks
          ∙ get_or-map mark m.chans k shut (mark_of shut_record) within)

      pub same_senders : ch.senders ≡ (chan m k).senders
      same_senders = ap (λ (x : Mark). x.senders) same_mark

      pub same_receiver : is_some ch.queue ≡ (chan m k).receiver
      same_receiver = ap (λ (x : Mark). x.receiver) same_mark

      pub is_line : Is (map (λ r. line_of r.queue) rs ++ o.lines) k (line_of ch.queue)
      is_line = (simp (length-append, length-map) (omega arith), rw ech (get_in (λ r. line_of r.queue) rs o.lines k h shut_record empty))

      pub is_wait : Is (s ∷ (map (λ r. r.receiving) rs ++ o.waits)) (suc k) ch.receiving
      is_wait = (simp (length-append, length-map) (omega arith), rw ech (get_in (λ r. r.receiving) rs o.waits k h shut_record empty))

      pub line_is : list (map (λ c. c.queue) m.chans ++ o.queued) k ≡ (chan m k).queue
      line_is = get_in (λ c. c.queue) m.chans o.queued k within shut []

      pub wait_is : list (m.sending ∷ (map (λ c. c.receiving) m.chans ++ o.waiting)) (suc k) ≡ (chan m k).receiving
      wait_is = get_in (λ c. c.receiving) m.chans o.waiting k within shut []

      pub line_len : (line_of ch.queue).len ≡ length (chan m k).queue
      line_len = keeps_len xm _ _ k (line_of ch.queue) st.queued is_line ∙ ap length line_is

      -- the record counts as open exactly when the channel does
      pub same_open : record_open ch ≡ is_open (chan m k)
      same_open = rw (same_receiver, same_senders, line_len, none_is (chan m k).queue) refl

      -- the k-th record has changed, and the sending list perhaps
      pub stands_set : (s' : Queue) (r' : Channel) (n' : ℕ) (em' : Mem Entry) (xm' : Mem T) (es : List Entry) (c' : Chan T) →
          Keeps em' (s' ∷ set (map (λ r. r.receiving) rs ++ o.waits) k r'.receiving) (es ∷ set (map (λ c. c.receiving) m.chans ++ o.waiting) k c'.receiving) →
          Keeps xm' (set (map (λ r. line_of r.queue) rs ++ o.lines) k (line_of r'.queue)) (set (map (λ c. c.queue) m.chans ++ o.queued) k c'.queue) →
          mark_of r' ≡ mark c' → n' + bit (is_open (chan m k)) ≡ n + bit (is_open c') →
          Stands s' (set rs k r') n' em' xm' o (record { chans = set m.chans k c'; sending = es })
      stands_set s' r' n' em' xm' es c' kw kq mk ct =
          let c = count_set m.chans k c' within in let d = st.count in let fw = st.few in
          record {
            waiting = rw (set_in (λ r. r.receiving) rs o.waits k h r', set_in (λ c. c.receiving) m.chans o.waiting k within c') at kw;
            queued = rw (set_in (λ r. line_of r.queue) rs o.lines k h r', set_in (λ c. c.queue) m.chans o.queued k within c') at kq;
            marks = map-set mark_of rs k r' ∙ rw (st.marks, mk) (sym (map-set mark m.chans k c'));
            count = omega arith;
            few = rw length-set fw;
          }

      -- parts that stay
      pub waits_kept : Keeps em (s ∷ set (map (λ r. r.receiving) rs ++ o.waits) k ch.receiving) (m.sending ∷ set (map (λ c. c.receiving) m.chans ++ o.waiting) k (chan m k).receiving)
      waits_kept =
          rw (ech, set-kept (λ r. r.receiving) rs o.waits k h shut_record (get_or rs k shut_record).receiving refl, set-kept (λ c. c.receiving) m.chans o.waiting k within shut (chan m k).receiving refl) st.waiting

      pub lines_kept : Keeps xm (set (map (λ r. line_of r.queue) rs ++ o.lines) k (line_of ch.queue)) (set (map (λ c. c.queue) m.chans ++ o.queued) k (chan m k).queue)
      lines_kept =
          rw (ech, set-kept (λ r. line_of r.queue) rs o.lines k h shut_record (line_of (get_or rs k shut_record).queue) refl, set-kept (λ c. c.queue) m.chans o.queued k within shut (chan m k).queue refl) st.queued

-- the channel called was found: its record is ch
pub record Found (c : Channels) (ok : Bool) (k : ℕ) (ch : Channel) : Type 0 where
  pub fit : ok ≡ true
  pub inside : k < length (records c)
  pub is : ch ≡ get_or (records c) k shut_record

-- one of the records in use is that of the table
pub in_use : (c : Channels) (k : ℕ) → k < length (records c) → get_or c.table k shut_record ≡ get_or (records c) k shut_record
in_use c k i = let l = length-take c.n c.table in sym (get_or-take c.n c.table k shut_record (grind arith))

pub found_here : (c : Channels) (fit : Bool) (k : ℕ) (ch : Channel) → fit ≡ true → k < length (records c) → ch ≡ get_or c.table k shut_record → Found c fit k ch
found_here c fit k ch f i e = record { fit = f; inside = i; is = e ∙ in_use c k i }

-- its record was written as it was
pub unwritten : (c : Channels) (fit : Bool) (k : ℕ) (ch r : Channel) → Found c fit k ch → r ≡ ch → set c.table k r ≡ c.table
unwritten c fit k ch r fd e = ap (λ (u : Channel). set c.table k u) (e ∙ (fd.is ∙ sym (in_use c k fd.inside))) ∙ set-get_or c.table k shut_record

-- the channel called was not found, and why: the smaller number comes first
pub data Lost (c : Channels) (fit : Bool) (k : ℕ) : Refusal → Type 0 where
  unfit : fit ≡ false → Lost c fit k Lengths
  beyond : fit ≡ true → (k < length (records c) → ⊥) → Lost c fit k Range
