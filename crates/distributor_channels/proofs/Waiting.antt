-- Who waits: an entry leaves its list only by being named, and stands only where a poll would be held back. Assumes nothing.
use Rattle.std.proofs.Common.{◌≡◌, ℕ, ◌<◌, Bool, true, false, cond, not, ◌&&◌, ◌||◌, eqb, List, [], ◌∷◌, ◌++◌, filter, refl, ap, ⊎_elim, arith}
use Rattle.std.proofs.lemmas.List.Elements.{filter-append}
use Rattle.std.proofs.lemmas.Bool.{eqb-true, eqb-false, eq-eqb, lt-ltb, and_parts, and_from, or_cases, or_parts, or_left, or_right, not-true, both_ways, false≢true, true≢false}
use Rattle.bank.specs.Lists.{without}
use Rattle.distributor_channels.specs.declared.Entry.{Entry}
use Rattle.distributor_channels.specs.Meaning.{Chan, Meaning, wakers, on, none, is_open, open_count, chan}
use Rattle.distributor_channels.specs.Histories.{Event, among, names, parks_by, send_waits, awaits_by, receive_waits}
use Rattle.distributor_channels.proofs.Counting.{bit_below}
use Rattle.distributor_channels.proofs.Standing.{count_set}
use Rattle.distributor_channels.proofs.Stepping.{Quiet, Move, wakes, queues, parks, hands, invites, awaits, leaves, leaves_last, unhears, View, stays, moves, open_parts, each}
use Rattle.distributor_channels.proofs.Linking.{and_none, quiet_silent, other_silent}

or_on : (a b c : Bool) → (b ≡ true → c ≡ true) → (a || b) ≡ true → (a || c) ≡ true
or_on true b c f t = refl
or_on false b c f t = f t

-- the waker w is among the entries
module _ (w : ℕ) where
  in_left : (xs ys : List Entry) → among w (wakers xs) ≡ true → among w (wakers (xs ++ ys)) ≡ true
  in_left [] ys i = absurd (false≢true i)
  in_left (x ∷ xs) ys i = or_on (eqb x.waker w) _ _ (in_left xs ys) i

  in_right : (xs ys : List Entry) → among w (wakers ys) ≡ true → among w (wakers (xs ++ ys)) ≡ true
  in_right [] ys i = i
  in_right (x ∷ xs) ys i = or_right (eqb x.waker w) _ (in_right xs ys i)

  pub in_kept : (p : Entry → Bool) (es : List Entry) → among w (wakers (filter p es)) ≡ true → among w (wakers es) ≡ true
  in_kept p [] i = i
  in_kept p (e ∷ es) i = by (p e) (in_kept p es) i
    where
      by : (b : Bool) → (among w (wakers (filter p es)) ≡ true → among w (wakers es) ≡ true) →
          among w (wakers (cond b (e ∷ filter p es) (filter p es))) ≡ true → (eqb e.waker w || among w (wakers es)) ≡ true
      by true f i = or_on (eqb e.waker w) _ _ f i
      by false f i = or_right (eqb e.waker w) _ (f i)

  pub some_in : (es : List Entry) → among w (wakers es) ≡ true → none es ≡ false
  some_in [] i = absurd (false≢true i)
  some_in (e ∷ es) i = refl

  -- taking out other entries leaves it there
  in_without : (p q : Entry → Bool) (es : List Entry) → among w (wakers (filter q es)) ≡ false → among w (wakers (filter p es)) ≡ true → among w (wakers (filter p (without q es))) ≡ true
  in_without p q [] o i = i
  in_without p q (e ∷ es) o i = by (p e) (q e) refl (in_without p q es) o i
    where
      by : (b d : Bool) → p e ≡ b →
          (among w (wakers (filter q es)) ≡ false → among w (wakers (filter p es)) ≡ true → among w (wakers (filter p (without q es))) ≡ true) →
          among w (wakers (cond d (e ∷ filter q es) (filter q es))) ≡ false → among w (wakers (cond b (e ∷ filter p es) (filter p es))) ≡ true →
          among w (wakers (filter p (cond (not d) (e ∷ without q es) (without q es)))) ≡ true
      by true true t f o i = let n = or_parts (eqb e.waker w) _ o in ⊎_elim (λ a. absurd (both_ways _ n.0 a)) (f n.1) (or_cases (eqb e.waker w) _ i)
      by true false t f o i = rw t (or_on (eqb e.waker w) _ _ (f o) i)
      by false true t f o i = f (or_parts (eqb e.waker w) _ o).1 i
      by false false t f o i = rw t (f o i)

-- the waker w waits at the gate for the channel k
abbrev AtGate : ℕ → ℕ → List Entry → Type 0
AtGate k w es = among w (wakers (filter (on k) es)) ≡ true

-- what makes an entry new gives it, and what does not name it leaves it
abbrev Keeps : Bool → Bool → Type 0 → Type 0 → Type 0
Keeps new named P P' = (new ≡ true → P') × (named ≡ false → P → P')

unchanged : (new named : Bool) (P : Type 0) → new ≡ false → Keeps new named P P
unchanged new named P n = (λ t. absurd (both_ways new n t), λ _ i. i)

kept_on : (new named old : Bool) (P P' : Type 0) → Keeps new named P P' → (old ≡ true → P) → (new || (not named && old)) ≡ true → P'
kept_on true named old P P' k i t = k.0 refl
kept_on false named old P P' k i t = let a = and_parts (not named) old t in k.1 (not-true named a.0) (i a.1)

module _ {T : Type 0} where
  -- an open receiver's entries stand only where nothing is queued and a sender is open
  abbrev pub Rests : Chan T → Type 0
  Rests c = c.receiver ≡ true → none c.receiving ≡ false → (none c.queue ≡ true) × (0 < c.senders)

  -- the waker w waits to receive
  abbrev pub Listed : ℕ → Chan T → Type 0
  Listed w c = among w (wakers c.receiving) ≡ true

  -- the waker w waits at the gate for the channel k, whose receiver is open
  abbrev pub Parked : ℕ → ℕ → Chan T → List Entry → Type 0
  Parked k w c es = (c.receiver ≡ true) × AtGate k w es

  gate_keeps : {k : ℕ} {c c' : Chan T} {es es' : List Entry} {g : Bool} {e : Event T} → Move k c es g e c' es' →
      (j u : ℕ) → Keeps (parks_by j u e) (among u (names e)) (AtGate j u es) (AtGate j u es')
  gate_keeps (wakes _ _ _ _) j u = unchanged _ _ _ (and_none _)
  gate_keeps (queues _ _ _ _ _) j u = unchanged _ _ _ (and_none _)
  gate_keeps {k} {es} (parks w _ _ _) j u = (
    λ t. let a = and_parts (eqb k j) (eqb w u) (and_parts _ true t).0 in rw (filter-append, a.0) (in_right u (filter (on j) es) _ (or_left _ _ a.1)),
    λ _ i. rw filter-append (in_left u (filter (on j) es) _ i),
  )
  gate_keeps (hands _ _ _ _ _ _) j u = unchanged _ _ _ refl
  gate_keeps {es} (invites _ _ _ _ _) j u = (λ t. absurd (false≢true t), λ n i. absurd (both_ways _ n (in_kept u (on j) es i)))
  gate_keeps (awaits _ _ _ _) j u = unchanged _ _ _ refl
  gate_keeps (leaves _ _) j u = unchanged _ _ _ refl
  gate_keeps (leaves_last _) j u = unchanged _ _ _ refl
  gate_keeps {k} {es} (unhears _) j u = (λ t. absurd (false≢true t), λ n i. in_without u (on j) (on k) es n i)

  -- what a call does to those who wait at a channel
  pub record Heeds (j : ℕ) (e : Event T) (c : Chan T) (es : List Entry) (c' : Chan T) (es' : List Entry) : Type 0 where
    pub rests : Rests c → Rests c'
    pub lists : (u : ℕ) → Keeps (awaits_by j u e) (among u (names e)) (Listed u c) (Listed u c')
    pub gates : (u : ℕ) → Keeps (parks_by j u e) (among u (names e)) (Parked j u c es) (Parked j u c' es')

  quiet_heeds : (j : ℕ) (e : Event T) (c : Chan T) (es : List Entry) → Quiet e → Heeds j e c es c es
  quiet_heeds j e c es q = record {
    rests = λ r. r;
    lists = λ u. unchanged _ _ _ (ap (λ d. d.awaiting) (quiet_silent j q u));
    gates = λ u. unchanged _ _ _ (ap (λ d. d.parking) (quiet_silent j q u));
  }

  other_heeds : (j k : ℕ) (e : Event T) (d c c' : Chan T) (es es' : List Entry) (g : Bool) → eqb k j ≡ false → Move k c es g e c' es' → Heeds j e d es d es'
  other_heeds j k e d c c' es es' g n a = record {
    rests = λ r. r;
    lists = λ u. unchanged _ _ _ (ap (λ d. d.awaiting) (other_silent j n a u));
    gates = λ u. (λ t. absurd (both_ways _ (ap (λ d. d.parking) (other_silent j n a u)) t), λ n i. (i.0, (gate_keeps a j u).1 n i.1));
  }

  module _ {k : ℕ} {c : Chan T} {es : List Entry} {g : Bool} where
    move_rests : {c' : Chan T} {es' : List Entry} {e : Event T} → Move k c es g e c' es' → Rests c → Rests c'
    move_rests (wakes _ _ _ _) i o n = absurd (true≢false n)
    move_rests (queues _ _ _ _ q) i o n = absurd (both_ways _ q (i o n).0)
    move_rests (parks _ _ _ _) i o n = i o n
    move_rests (hands _ _ _ q _ _) i o n = absurd (both_ways _ (ap none q) (i o n).0)
    move_rests (invites _ _ _ q _) i o n = absurd (both_ways _ (ap none q) (i o n).0)
    move_rests (awaits _ q _ s) i o n = (ap none q, omega (arith, eqb-false c.senders 0 s))
    move_rests (leaves s t) i o n = ((i o n).0, omega (arith, eqb-false c.senders 0 s, eqb-false c.senders 1 t))
    move_rests (leaves_last _) i o n = absurd (true≢false n)
    move_rests (unhears _) i o n = absurd (false≢true o)

    move_lists : {c' : Chan T} {es' : List Entry} {e : Event T} → Move k c es g e c' es' → (u : ℕ) → Keeps (awaits_by k u e) (among u (names e)) (Listed u c) (Listed u c')
    move_lists (wakes _ _ _ _) u = (λ t. absurd (false≢true t), λ n i. absurd (both_ways _ n i))
    move_lists (queues _ _ _ _ _) u = unchanged _ _ _ refl
    move_lists (parks _ _ _ _) u = unchanged _ _ _ refl
    move_lists (hands _ _ _ _ _ _) u = unchanged _ _ _ (and_none _)
    move_lists (invites _ _ _ _ _) u = unchanged _ _ _ (and_none _)
    move_lists (awaits w _ _ _) u =
        (λ t. in_right u c.receiving _ (or_left _ _ (and_parts (eqb k k) (eqb w u) (and_parts _ true t).0).1), λ _ i. in_left u c.receiving _ i)
    move_lists (leaves _ _) u = unchanged _ _ _ refl
    move_lists (leaves_last _) u = (λ t. absurd (false≢true t), λ n i. absurd (both_ways _ n i))
    move_lists (unhears _) u = unchanged _ _ _ refl

    -- where somebody waits at the gate for the channel, its receiver stays open
    move_open : {c' : Chan T} {es' : List Entry} {e : Event T} → Move k c es g e c' es' → (u : ℕ) → Keeps (parks_by k u e) (among u (names e)) (Parked k u c es) (c'.receiver ≡ true)
    move_open (wakes _ _ r _) u = (λ _. r, λ _ i. r)
    move_open (queues _ _ r _ _) u = (λ _. r, λ _ i. r)
    move_open (parks _ _ r _) u = (λ _. r, λ _ i. r)
    move_open (hands _ _ _ _ r _) u = (λ _. r, λ _ i. r)
    move_open (invites _ _ _ _ r) u = (λ _. r, λ _ i. r)
    move_open (awaits _ _ r _) u = (λ _. r, λ _ i. r)
    move_open (leaves _ _) u = (λ t. absurd (false≢true t), λ _ i. i.0)
    move_open (leaves_last _) u = (λ t. absurd (false≢true t), λ _ i. i.0)
    move_open (unhears _) u = (λ t. absurd (false≢true t), λ n i. absurd (both_ways _ n i.1))

  move_heeds : (k : ℕ) (e : Event T) (c c' : Chan T) (es es' : List Entry) (g : Bool) → Move k c es g e c' es' → Heeds k e c es c' es'
  move_heeds k e c c' es es' g a = record {
    rests = move_rests a;
    lists = move_lists a;
    gates = λ u. let r = move_open a u in let q = gate_keeps a k u in (λ t. (r.0 t, q.0 t), λ n i. (r.1 n i, q.1 n i.1));
  }

  pub heeds : {m m' : Meaning T} {e : Event T} → View m e m' → (j : ℕ) → Heeds j e (chan m j) m.sending (chan m' j) m'.sending
  heeds = each Heeds quiet_heeds move_heeds other_heeds

  -- who waits on the channel k after the history h
  pub record Waited (k : ℕ) (h : List (Event T)) (c : Chan T) (es : List Entry) : Type 0 where
    pub rests : Rests c
    pub listed : (w : ℕ) → receive_waits k w h ≡ true → Listed w c
    pub parked : (w : ℕ) → send_waits k w h ≡ true → Parked k w c es

  pub waited_more : (k : ℕ) (h : List (Event T)) (e : Event T) (c c' : Chan T) (es es' : List Entry) → Heeds k e c es c' es' → Waited k h c es → Waited k (e ∷ h) c' es'
  waited_more k h e c c' es es' a i = record {
    rests = a.rests i.rests;
    listed = λ w. kept_on _ _ (receive_waits k w h) _ _ (a.lists w) (i.listed w);
    parked = λ w. kept_on _ _ (send_waits k w h) _ _ (a.gates w) (i.parked w);
  }

  -- somebody waits at the gate only while it is shut
  abbrev pub Gated : Meaning T → Type 0
  Gated m = none m.sending ≡ false → eqb (open_count m.chans) 0 ≡ true

  is_open_lem : (c : Chan T) → c.receiver ≡ true → 0 < c.senders → none c.queue ≡ true → is_open c ≡ true
  is_open_lem c r s q = and_from _ _ r (and_from _ _ (lt-ltb 0 c.senders s) q)

  -- where somebody waits at the gate after a call, it was shut, and the channel called does not open it
  shut_move : {k : ℕ} {c c' : Chan T} {es es' : List Entry} {g : Bool} {e : Event T} → Move k c es g e c' es' → (none es ≡ false → g ≡ true) → none es' ≡ false →
      (g ≡ true) × (is_open c' ≡ true → is_open c ≡ true)
  shut_move (wakes _ _ _ s) i n = absurd (both_ways _ s (i n))
  shut_move (queues _ _ _ s _) i n = absurd (both_ways _ s (i n))
  shut_move (parks _ _ _ s) i n = (s, λ o. o)
  shut_move (hands _ _ _ _ _ s) i n = (i n, λ o. absurd (both_ways _ (s o) (i n)))
  shut_move (invites _ _ _ _ _) i n = absurd (true≢false n)
  shut_move (awaits _ _ _ _) i n = (i n, λ o. o)
  shut_move {c} {c'} (leaves _ _) i n = (i n, λ o. let p = open_parts c' o in let s = p.1 in is_open_lem c p.0 (omega arith) p.2)
  shut_move {c} {c'} (leaves_last _) i n = (i n, λ o. absurd (let s : 0 < 0 = (open_parts c' o).1 in omega arith))
  shut_move {k} {es} (unhears _) i n = (i (some es n), λ o. absurd (false≢true o))
    where
      some : (es : List Entry) → none (without (on k) es) ≡ false → none es ≡ false
      some [] n = n
      some (x ∷ xs) n = refl

  pub gated_more : {m m' : Meaning T} {e : Event T} → View m e m' → Gated m → Gated m'
  gated_more (stays _) i n = i n
  gated_more {m} (moves {e} {c} k l a) i n =
      let s = shut_move a i n in
      let r = count_set m.chans k c l in
      let z = eqb-true (open_count m.chans) 0 s.0 in
      let b = bit_below (is_open c) (is_open (chan m k)) s.1 in
      eq-eqb _ 0 (omega arith)
