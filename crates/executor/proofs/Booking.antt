-- What calls on the channels do to the book, the notices accepted and the feeds' places. Assumes nothing.
use Rattle.std.proofs.Common.{◌≡◌, ℕ, zero, suc, ◌+◌, ◌<◌, ◌≤◌, ◌⊎◌, Bool, true, false, cond, not, eqb, ltb, List, [], ◌∷◌, ◌++◌, length, get_or, take, drop, set, replicate, Option, Some, None, Ok, Err, Result, sym, refl, ap, ◌∙◌, inl, inr, ⊎_elim, append-nil, add-zero, arith, length-append, IsErr, slice_get, map, filter, rules}
use Rattle.std.specs.List.{find, enumerate_from}
use Rattle.std.proofs.lemmas.List.Elements.{filter_more, filter-append}
use Rattle.std.proofs.Math.Bool.{and-true, and-false}
use Rattle.std.proofs.lemmas.List.{get_or-set_same, get_or-set_other, take_all, map-append}
use Rattle.std.proofs.lemmas.Option.{slice_get_within, get_or_from_slice_get}
use Rattle.std.proofs.lemmas.Bool.{cases_eq, eq-eqb, ne_eqb, eqb-true, ltb-true, and_parts, both_ways}
use Rattle.refusal.specs.declared.Refusal.{Refusal}
use Rattle.refusal.specs.declared.Refusal.TheVariants.{Lengths, Range, Cells, Places}
use Rattle.distributor_channels.specs.declared.Channels.{Channels}
use Rattle.distributor_channels.specs.declared.SendPoll.TheVariants.{Sent, Wait, Closed}
use Rattle.distributor_channels.specs.declared.ReceivePoll.TheVariants.{Element}
use Rattle.distributor_channels.specs.Meaning.{Meaning, Facts, Out, none, chan, opened}
use Rattle.distributor_channels.specs.Steps.{SendAnswer, ReceiveAnswer, CloseAnswer, send_step, receive_step, close_sender_step}
use Rattle.distributor_channels.specs.Histories.{Event, sends, receives, closes_sender, Run, accepted, accepted_by, accepts, given, given_by, gives, heard, keeps_by, ends, left, opening}
use Rattle.distributor_channels.specs.Calls.{Mems, Others, Represents, Does, Chronicles, facts}
use Rattle.distributor_channels.proofs.LawsHold.{laws, run_long}
use Rattle.distributor_channels.proofs.Ways as way
use Rattle.executor.specs.declared.Floor.{Floor}
use Rattle.executor.specs.declared.Notice.{Notice}
use Rattle.executor.specs.declared.Delivery.{Delivery}
use Rattle.executor.specs.declared.Sending.{Sending}
use Rattle.executor.specs.declared.Sending.TheVariants as ours
use Rattle.executor.specs.declared.run.Halt.{Halt}
use Rattle.executor.specs.declared.run.Halt.TheVariants.{Memory}
use Rattle.executor.specs.declared.run.Run.{Run as Going}
use Rattle.executor.specs.Books.{of_feed, to_room, booked, Sound, refused_as, outcome_of, advance, sent_by, Drained, Emptied, Settles, Onward, Goes}

-- the next notice of the feed f from the place i on is at the place p
pub record Found (notices : List Notice) (f i p : ℕ) (notice : Notice) : Type 0 where
  pub within : p < length notices
  pub here : get_or notices p notice ≡ notice
  pub own : notice.feed ≡ f
  pub none : of_feed f (take p notices) ≡ of_feed f (take i notices)

-- the next notice of the feed f from the place i on, with its place, or there is none
abbrev pub Next : List Notice → ℕ → ℕ → Option (ℕ × Notice) → Type 0
Next notices f i None = of_feed f notices ≡ of_feed f (take i notices)
Next notices f i (Some x) = Found notices f i x.0 x.1

-- the same of xs, where the places count from k
module _ (f : ℕ) where
  NextFrom : ℕ → List Notice → ℕ → Option (ℕ × Notice) → Type 0
  NextFrom k xs i None = of_feed f xs ≡ of_feed f (take i xs)
  NextFrom k xs i (Some x) = (p : ℕ) × (x.0 ≡ k + p) × Found xs f i p x.1

  -- a notice of another feed is passed over
  missed : (k : ℕ) (x : Notice) (xs : List Notice) → eqb x.feed f ≡ false → (r : Option (ℕ × Notice)) → NextFrom (k + 1) xs 0 r → NextFrom k (x ∷ xs) 0 r
  unfolding NextFrom
  missed k x xs t None e = rw t e
  missed k x xs t (Some y) e = (suc e.0, omega (arith, e.1), record { within = let h = e.2.within in omega arith; here = e.2.here; own = e.2.own; none = rw t e.2.none })

  -- so is what stands before the place
  skipped : (k i : ℕ) (x : Notice) (xs : List Notice) (r : Option (ℕ × Notice)) → NextFrom (k + 1) xs i r → NextFrom k (x ∷ xs) (suc i) r
  unfolding NextFrom
  skipped k i x xs None e = ap (λ u. cond (eqb x.feed f) (x ∷ u) u) e
  skipped k i x xs (Some y) e = (suc e.0, omega (arith, e.1), record { within = let h = e.2.within in omega arith; here = e.2.here; own = e.2.own; none = ap (λ u. cond (eqb x.feed f) (x ∷ u) u) e.2.none })

  next_from : (k i : ℕ) (xs : List Notice) → NextFrom k xs i (find (λ x. eqb x.1.feed f) (drop i (enumerate_from k xs)))
  unfolding NextFrom
  next_from k zero [] = refl
  next_from k (suc i) [] = refl
  next_from k zero (x ∷ xs) = by (eqb x.feed f) refl (next_from (k + 1) 0 xs)
    where
      by : (b : Bool) → eqb x.feed f ≡ b → NextFrom (k + 1) xs 0 (find (λ u. eqb u.1.feed f) (enumerate_from (k + 1) xs)) → NextFrom k (x ∷ xs) 0 (find (λ u. eqb u.1.feed f) (enumerate_from k (x ∷ xs)))
      by true t _ = rw t (0, omega arith, record { within = omega arith; here = refl; own = eqb-true _ _ t; none = refl })
      by false t e = rw t (missed k x xs t _ e)
  next_from k (suc i) (x ∷ xs) = skipped k i x xs _ (next_from (k + 1) i xs)

  -- what the executor looks for
  abbrev pub next_in : ℕ → List Notice → Option (ℕ × Notice)
  next_in i xs = find (λ x. eqb x.1.feed f) (drop i (enumerate_from 0 xs))

  pub next_found : (i : ℕ) (xs : List Notice) (r : Option (ℕ × Notice)) → r ≡ next_in i xs → Next xs f i r
  unfolding NextFrom
  next_found i xs r e = rw e (by _ (next_from 0 i xs))
    where
      by : (u : Option (ℕ × Notice)) → NextFrom 0 xs i u → Next xs f i u
      by None n = n
      by (Some x) n = let z : x.0 ≡ n.0 = omega (arith, n.1) in rw z n.2

-- a notice of another feed adds none to those of this one
pub passed : (notices : List Notice) (f i : ℕ) (d : Notice) → i < length notices → ((get_or notices i d).feed ≡ f → ⊥) → of_feed f (take (i + 1) notices) ≡ of_feed f (take i notices)
passed notices f i d h ne =
    let t : eqb (get_or notices i d).feed f ≡ false = ne_eqb _ _ ne in
    rw (filter_more (λ (u : Notice). eqb u.feed f) notices i d h, t) (append-nil (of_feed f (take i notices)))

-- one more at the end
pushed : {X : Type 0} (p : X → Bool) (h : X → ℕ) (xs : List X) (x : X) → map h (filter p (xs ++ x ∷ [])) ≡ map h (filter p xs) ++ cond (p x) (h x ∷ []) []
pushed p h xs x = rw (filter-append p xs (x ∷ []), map-append h (filter p xs) (cond (p x) (x ∷ []) [])) (ap (λ u. map h (filter p xs) ++ u) (by (p x)))
  where
    by : (b : Bool) → map h (cond b (x ∷ []) []) ≡ cond b (h x ∷ []) []
    by true = refl
    by false = refl

pub booked-push : (k : ℕ) (ds : List Delivery) (d : Delivery) → booked k (ds ++ d ∷ []) ≡ booked k ds ++ cond (eqb d.room k) (d.id ∷ []) []
booked-push k ds d = pushed (λ (u : Delivery). eqb u.room k) (λ u. u.id) ds d

cond_nil : {A : Type 0} (b : Bool) → ◌≡◌ {A = List A} (cond b [] []) []
cond_nil true = refl
cond_nil false = refl

-- an answer is no want of memory
pub answered : {A : Type 0} (x : A) → ◌≡◌ {A = Result A Halt} (Ok x) (Err Memory) → ⊥
answered x e = absurd cc

-- what the book gains by a poll of the room k
abbrev pub delivers : ℕ → ReceiveAnswer ℕ → List Delivery
delivers k (Ok (Element x _)) = record { room = k; id = x } ∷ []
delivers k _ = []

booked-delivers : (j k : ℕ) (ds : List Delivery) (r : ReceiveAnswer ℕ) → booked j (ds ++ delivers k r) ≡ booked j ds ++ cond (eqb k j) (gives r) []
booked-delivers j k ds (Ok (Element x _)) = booked-push j ds (record { room = k; id = x })
booked-delivers j k ds _ = rw (append-nil ds, cond_nil) (sym (append-nil (booked j ds)))

end_delivers : (k : ℕ) (r : ReceiveAnswer ℕ) → ends r ≡ true → delivers k r ≡ []
end_delivers k (Ok (Element y _)) e = absurd (both_ways _ refl e)
end_delivers k _ e = refl

-- a refusal is passed on, but where only room was wanting
refused_cases : (note : Notice) (why : Refusal) → (refused_as note why ≡ Ok (ours.Full note)) ⊎ (refused_as note why ≡ Err why)
refused_cases note Cells = inl refl
refused_cases note Places = inl refl
refused_cases note _ = inr refl

-- a turn that is refused sends nothing
pub not_sent : (r : Result Sending Refusal) (sent : List Notice) → IsErr r → sent_by r sent ≡ sent
not_sent (Ok o) sent e = absurd (search rules)
not_sent (Err why) sent e = refl

module _ {n v : ℕ} {notices sent : List Notice} {c : Channels} {ms : Mems ℕ} {book : List Delivery} {cursors : List ℕ} (s : Sound n v notices sent c ms book cursors) where
  -- a call that closes no receiver
  module _ {A E : Type 0} (call : Result A E → List ℕ → Event ℕ) (step : Facts → Meaning ℕ → Out ℕ (Result A E)) (c' : Channels) (ms' : Mems ℕ) (r : Result A E)
      (does : Does step c ms c' ms' r) (told : Chronicles call step c ms r) (open-still : (k : ℕ) (ws : List ℕ) → keeps_by k (call r ws) ≡ true) where
    pub sound_more : (sent' : List Notice) (book' : List Delivery) (cursors' : List ℕ) →
        ((k : ℕ) (ws : List ℕ) → to_room k sent ++ accepted_by k (call r ws) ≡ to_room k sent') →
        ((k : ℕ) (ws : List ℕ) → booked k book ++ given_by k (call r ws) ≡ booked k book') →
        ((f : ℕ) → of_feed f sent' ≡ of_feed f (take (get_or cursors' f 0) notices)) →
        Sound n v notices sent' c' ms' book' cursors'
    sound_more sent' book' cursors' ea eg eo =
        let o = s.others in let m = s.meaning in
        let ws = (step (facts c ms) m).named in
        record {
          history = call r ws ∷ s.history;
          others = o;
          meaning = (step (facts c ms) m).next;
          represents = (does o m s.represents).2;
          run = (told n v s.history o m s.represents s.run).0;
          open_ends = λ k. rw (open-still k ws) (s.open_ends k);
          accepts = λ k. ap (λ (u : List ℕ). u ++ accepted_by k (call r ws)) (s.accepts k) ∙ ea k ws;
          gives = λ k. ap (λ (u : List ℕ). u ++ given_by k (call r ws)) (s.gives k) ∙ eg k ws;
          order = eo;
        }

  -- a sender leaves
  pub sound_left : (k : ℕ) (c' : Channels) (ms' : Mems ℕ) (r : CloseAnswer) → Does (λ f m. close_sender_step f m k) c ms c' ms' r → Chronicles (closes_sender k) (λ f m. close_sender_step f m k) c ms r →
      Sound n v notices sent c' ms' book cursors
  sound_left k c' ms' r d t =
      sound_more (closes_sender k) (λ f m. close_sender_step f m k) c' ms' r d t (λ _ _. refl) sent book cursors (λ j _. append-nil (to_room j sent)) (λ j _. append-nil (booked j book)) s.order

  -- a room is polled: what it is given is booked
  pub sound_polled : (k w : ℕ) (c' : Channels) (ms' : Mems ℕ) (r : ReceiveAnswer ℕ) → Does (λ f m. receive_step f m k w) c ms c' ms' r → Chronicles (receives k w) (λ f m. receive_step f m k w) c ms r →
      Sound n v notices sent c' ms' (book ++ delivers k r) cursors
  sound_polled k w c' ms' r d t =
      sound_more (receives k w) (λ f m. receive_step f m k w) c' ms' r d t (λ _ _. refl) sent (book ++ delivers k r) cursors
      (λ j _. append-nil (to_room j sent)) (λ j _. sym (booked-delivers j k book r)) s.order

  -- a feed's place moves on over notices of others
  module _ (feed from : ℕ) (at : slice_get cursors feed ≡ Some from) where
    inside : feed < length cursors
    inside = slice_get_within cursors feed from at

    order_at : (p : ℕ) → of_feed feed (take p notices) ≡ of_feed feed (take from notices) → (f : ℕ) → of_feed f sent ≡ of_feed f (take (get_or (set cursors feed p) f 0) notices)
    order_at p e f =
        ⊎_elim
        (λ (z : f ≡ feed). rw (z, get_or-set_same cursors feed p 0 inside, e, ← get_or_from_slice_get cursors feed from 0 at) (s.order feed))
        (λ (ne : f ≡ feed → ⊥). rw (get_or-set_other cursors feed f p 0 ne) (s.order f))
        (cases_eq f feed)

    -- up to any place before which it has none
    pub sound_moved : (p : ℕ) → of_feed feed (take p notices) ≡ of_feed feed (take from notices) → Sound n v notices sent c ms book (set cursors feed p)
    sound_moved p e =
        record {
          history = s.history;
          others = s.others;
          meaning = s.meaning;
          represents = s.represents;
          run = s.run;
          open_ends = s.open_ends;
          accepts = s.accepts;
          gives = s.gives;
          order = order_at p e;
        }

    -- it has none left
    pub sound_done : None ≡ next_in feed from notices → Sound n v notices sent c ms book (set cursors feed (length notices))
    sound_done e = sound_moved (length notices) (ap (of_feed feed) (take_all (length notices) notices (omega arith)) ∙ next_found feed from notices None e)

    -- behind a notice of its own, which was polled
    module _ (i : ℕ) (note : Notice) (found : Some (i, note) ≡ next_in feed from notices) (w : ℕ) (c' : Channels) (ms' : Mems ℕ) where
      next : Found notices feed from i note
      next = next_found feed from notices (Some (i, note)) found

      abbrev step : Facts → Meaning ℕ → Out ℕ (SendAnswer ℕ)
      step f m = send_step f m note.room w note.id

      order_more : (f : ℕ) → of_feed f (sent ++ note ∷ []) ≡ of_feed f (take (get_or (set cursors feed (i + 1)) f 0) notices)
      order_more f =
          let h = next.within in
          ⊎_elim
          (λ (e : f ≡ feed).
          let t : eqb note.feed feed ≡ true = eq-eqb _ _ next.own in
          rw (e, get_or-set_same cursors feed (i + 1) 0 inside, filter-append, filter_more (λ (u : Notice). eqb u.feed feed) notices i note h, next.here, t, s.order feed, next.none, get_or_from_slice_get cursors feed from 0 at) refl)
          (λ (ne : f ≡ feed → ⊥).
          let t : eqb note.feed f ≡ false = ne_eqb _ _ (λ e. ne (sym e ∙ next.own)) in
          rw (get_or-set_other cursors feed f (i + 1) 0 ne, filter-append, t) (append-nil (of_feed f sent) ∙ s.order f))
          (cases_eq f feed)

      accepted_one : (a : ℕ) → Does step c ms c' ms' (Ok (Sent a)) → Chronicles (sends note.room w note.id) step c ms (Ok (Sent a)) → Sound n v notices (sent ++ note ∷ []) c' ms' book (set cursors feed (i + 1))
      accepted_one a d t =
          sound_more (sends note.room w note.id) step c' ms' (Ok (Sent a)) d t (λ _ _. refl) (sent ++ note ∷ []) book (set cursors feed (i + 1))
          (λ k ws. rw (and-true (eqb note.room k)) (sym (pushed (λ (u : Notice). eqb u.room k) (λ u. u.id) sent note))) (λ k _. append-nil (booked k book)) order_more

      module _ (r : SendAnswer ℕ) (d : Does step c ms c' ms' r) (t : Chronicles (sends note.room w note.id) step c ms r) (no : accepts r ≡ false) where
        unsent : (cursors' : List ℕ) → ((f : ℕ) → of_feed f sent ≡ of_feed f (take (get_or cursors' f 0) notices)) → Sound n v notices sent c' ms' book cursors'
        unsent cursors' eo =
            sound_more (sends note.room w note.id) step c' ms' r d t (λ _ _. refl) sent book cursors'
            (λ k ws. rw (no, and-false (eqb note.room k)) (append-nil (to_room k sent))) (λ k _. append-nil (booked k book)) eo

        kept : Sound n v notices sent c' ms' book (set cursors feed i)
        kept = unsent (set cursors feed i) (order_at i next.none)

      -- with the place behind it if it was accepted, and else with its own
      pub sound_sent : (r : SendAnswer ℕ) → Does step c ms c' ms' r → Chronicles (sends note.room w note.id) step c ms r → (o : Sending) → Ok o ≡ outcome_of note r →
          Sound n v notices (sent_by (Ok o) sent) c' ms' book (set cursors feed (i + advance (Ok o)))
      sound_sent (Ok (Sent a)) d t o e = let z : o ≡ ours.Sent note a = cc in rw z (accepted_one a d t)
      sound_sent (Ok (Wait a)) d t o e = let z : o ≡ ours.Waits note = cc in rw (z, add-zero i) (kept (Ok (Wait a)) d t refl)
      sound_sent (Ok (Closed a)) d t o e = absurd cc
      sound_sent (Err a) d t o e =
          ⊎_elim
          (λ (z : refused_as note a.why ≡ Ok (ours.Full note)). let y : o ≡ ours.Full note = cc in rw (y, add-zero i) (kept (Err a) d t refl))
          (λ (z : refused_as note a.why ≡ Err a.why). let y : ◌≡◌ {A = Result Sending Refusal} (Ok o) (Err a.why) = e ∙ z in absurd cc)
          (refused_cases note a.why)

      -- a poll that comes to a refusal leaves the places as they were
      pub sound_refused : (r : SendAnswer ℕ) → Does step c ms c' ms' r → Chronicles (sends note.room w note.id) step c ms r → (why : Refusal) → Err why ≡ outcome_of note r →
          Sound n v notices sent c' ms' book cursors
      sound_refused (Ok (Sent a)) d t why e = absurd cc
      sound_refused (Ok (Wait a)) d t why e = absurd cc
      sound_refused (Ok (Closed a)) d t why e = unsent (Ok (Closed a)) d t refl cursors s.order
      sound_refused (Err a) d t why e = unsent (Err a) d t refl cursors s.order

-- a list whose front is all of it has nothing behind
nothing_behind : {A : Type 0} (xs ys : List A) → none ys ≡ true → xs ++ ys ≡ xs
nothing_behind xs [] e = append-nil xs
nothing_behind xs (y ∷ ys) e = absurd (both_ways _ refl e)

empty-none : {A : Type 0} (ys : List A) → length ys ≡ 0 → none ys ≡ true
empty-none [] e = refl
empty-none (y ∷ ys) e = absurd (omega arith)

-- a room that is told the end has been given all that was accepted for it
pub given_all : (n v : ℕ) (h : List (Event ℕ)) (m : Meaning ℕ) → Run n v h m → (f : Facts) (k w : ℕ) → heard k h ≡ true → ends (receive_step f m k w).answer ≡ true → given k h ≡ accepted k h
given_all n v h m run f k w hd e = by f.fit (ltb k (length m.chans)) refl refl
  where
    by : (a b : Bool) → f.fit ≡ a → ltb k (length m.chans) ≡ b → given k h ≡ accepted k h
    by false b ea eb = let z = way.receive_unfound f m k Lengths (rw ea refl) w in absurd (both_ways _ (ap (λ (u : Out ℕ (ReceiveAnswer ℕ)). ends u.answer) z) e)
    by true false ea eb = let z = way.receive_unfound f m k Range (rw (ea, eb) refl) w in absurd (both_ways _ (ap (λ (u : Out ℕ (ReceiveAnswer ℕ)). ends u.answer) z) e)
    by true true ea eb =
        let l = ltb-true _ _ eb in
        let ln = run_long n v h m run in
        let kn : k < n = omega arith in
        let law = laws n v h m run in
        let q = law.delivery k kn hd in
        let t = law.endings f k w ea kn hd in
        let lg : length (given k h) ≡ length (accepted k h) = eqb-true _ _ (and_parts (not (ltb (left k h) v)) (eqb (length (given k h)) (length (accepted k h))) (sym t ∙ e)).1 in
        let la = ap length q in let lb = length-append (given k h) (chan m k).queue in
        sym (nothing_behind (given k h) (chan m k).queue (empty-none (chan m k).queue (omega arith))) ∙ q

module _ {n v : ℕ} {notices sent : List Notice} {c : Channels} {ms : Mems ℕ} {book : List Delivery} {cursors : List ℕ} (s : Sound n v notices sent c ms book cursors) where
  -- a room that is told the end has all of its notices in the book
  pub book_full : (k w : ℕ) (c' : Channels) (ms' : Mems ℕ) (r : ReceiveAnswer ℕ) → Does (λ f m. receive_step f m k w) c ms c' ms' r → ends r ≡ true → booked k book ≡ to_room k sent
  book_full k w c' ms' r d e =
      let ea = (d s.others s.meaning s.represents).0 in
      sym (s.gives k) ∙ given_all _ _ s.history s.meaning s.run (facts c ms) k w (s.open_ends k) (sym (ap ends ea) ∙ e) ∙ s.accepts k

  -- after a poll: what was accepted still is, and a room that was told the end has it all in the book
  pub drained : (k w : ℕ) (c' : Channels) (ms' : Mems ℕ) (r : ReceiveAnswer ℕ) → Does (λ f m. receive_step f m k w) c ms c' ms' r → Chronicles (receives k w) (λ f m. receive_step f m k w) c ms r →
      (book' : List Delivery) → book' ≡ book ++ delivers k r →
      Sound n v notices sent c' ms' book' cursors × (ends r ≡ true → (book' ≡ book) × (booked k book' ≡ to_room k sent))
  drained k w c' ms' r d t book' eb = (
    rw eb (sound_polled s k w c' ms' r d t),
    λ e.
        let z : book' ≡ book = eb ∙ ap (λ (u : List Delivery). book ++ u) (end_delivers k r e) ∙ append-nil book in
        (z, rw z (book_full k w c' ms' r d e)),
  )

  -- each feed at its end, each room's book full: everything was delivered
  pub all_sent : (v' : ℕ) → ((f : ℕ) → f < v' → length notices ≤ get_or cursors f 0) → (f : ℕ) → f < v' → of_feed f sent ≡ of_feed f notices
  all_sent v' e f h = s.order f ∙ ap (of_feed f) (take_all (get_or cursors f 0) notices (e f h))

pub zeros : (n f : ℕ) → ◌≡◌ {A = ℕ} (get_or (replicate n 0) f 0) 0
zeros zero f = refl
zeros (suc n) zero = refl
zeros (suc n) (suc f) = zeros n f

-- just opened: nothing was sent or delivered
pub sound_new : (n v : ℕ) (notices : List Notice) (c : Channels) (ms : Mems ℕ) (o : Others ℕ) (cursors : List ℕ) → Represents c ms o (opened n v) → ((f : ℕ) → get_or cursors f 0 ≡ 0) → Sound n v notices [] c ms [] cursors
sound_new n v notices c ms o cursors rep z = record {
  history = [];
  others = o;
  meaning = opened n v;
  represents = rep;
  run = opening;
  open_ends = λ _. refl;
  accepts = λ _. refl;
  gives = λ _. refl;
  order = λ f. rw (z f) refl;
}

-- no room was asked yet
pub emptied_none : (notices : List Notice) (f : Floor) → Emptied 0 notices f.cursors f f
emptied_none notices f = record { places = refl; rooms = λ n v sent s. (s, λ k h. absurd (omega arith)) }

-- one room more was told the end
pub emptied_more : (i : ℕ) (notices : List Notice) (cs : List ℕ) (f f' f'' : Floor) (b : Bool) → Emptied i notices cs f f' → Drained b i f' f'' → f''.cursors ≡ f'.cursors → b ≡ true → Emptied (i + 1) notices cs f f''
emptied_more i notices cs f f' f'' b e d ec t = record {
  places = ec ∙ e.places;
  rooms = λ n v sent s.
      let a = e.rooms n v sent s in
      let g = d n v notices sent a.0 in
      let x = g.1 t in
      (g.0, λ k h. ⊎_elim (λ (z : k ≡ i). rw z x.1) (λ (z : k ≡ i → ⊥). ap (booked k) x.0 ∙ a.1 k (omega arith)) (cases_eq k i));
}

-- all rooms were told the end, and all feeds are at theirs
pub delivered : (rooms feeds : ℕ) (notices : List Notice) (f f' : Floor) → Emptied rooms notices f.cursors f f' → ((j : ℕ) → j < feeds → length notices ≤ get_or f.cursors j 0) → Settles rooms feeds notices f f'
delivered rooms feeds notices f f' e z n v sent s = (sent, (all_sent s feeds z, (e.rooms n v sent s).1))

-- onward by no call, and by one stretch after another
pub onward_none : (notices : List Notice) (f : Floor) → Onward notices f f
onward_none notices f n v sent s = (sent, s)

pub onward_more : (notices : List Notice) (f f' f'' : Floor) → Onward notices f f' → Onward notices f' f'' → Onward notices f f''
onward_more notices f f' f'' a b n v sent s = let x = a n v sent s in b n v x.0 x.1

-- one stretch of a run after another
pub goes_more : (r r' r'' : Going) → Goes r r' → Goes r' r'' → Goes r r''
goes_more r r' r'' a b = (b.0 ∙ a.0, onward_more r.notices.now r.floor r'.floor r''.floor a.1 (rw a.0 at b.1))
