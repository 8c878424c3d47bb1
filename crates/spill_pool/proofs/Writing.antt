-- Writing to a file: it stands in the store as its record says, and what is left to read gains the batch if it was kept. Assumes nothing.
use Rattle.std.proofs.Common.{◌≡◌, ℕ, ◌+◌, ◌^◌, ◌<◌, ◌≤◌, true, false, eqb, ltb, leb, List, [], ◌∷◌, ◌++◌, map, length, drop, is_some, Some, None, Ok, Err, Option, Result, sym, refl, ap, ◌∙◌, subst, ⊎_elim, arith, length-append}
use lib.Seq.{drop-append-le}
use Rattle.std.specs.List.{AllByRecursion}
use Rattle.std.proofs.ByRecursion.{All-push}
use Rattle.std.proofs.lemmas.List.{append-nil, map-append}
use Rattle.std.proofs.lemmas.Bool.{cond_both, eqb-false, ltb-false, leb-false, or_parts, both_ways, and_cases}
use Rattle.resources.specs.declared.cause.Cause.{Cause}
use Rattle.resources.specs.Files.{File, Files, put, extended, shut, live_at, finish_after}
use Rattle.resources.specs.History.{batches_of}
use Rattle.spill_pool.specs.declared.FileRecord.{FileRecord}
use Rattle.spill_pool.specs.Meaning.{Setup, Replies, Kind, Lawful, batch_of, Stored, is_full, is_spent, grown, ended, left}
use Rattle.spill_pool.specs.Steps.{Written, rotate, write_by, write}
use Rattle.spill_pool.specs.Histories.{keeps}
use Rattle.spill_pool.proofs.Listing.{put_here, put_there}

-- a finished file keeps its batches
pub batches_shut : (o : Option File) → batches_of (shut o) ≡ batches_of o
batches_shut None = refl
batches_shut (Some f) = refl

batches_more : (o : Option File) (ws : List ℕ) → is_some o ≡ true → batches_of (extended o ws) ≡ batches_of o ++ ws ∷ []
batches_more None ws e = absurd (both_ways false refl e)
batches_more (Some f) ws e = refl

some_more : (o : Option File) (ws : List ℕ) → is_some o ≡ true → is_some (extended o ws) ≡ true
some_more None ws e = e
some_more (Some f) ws e = refl

live_more : (o : Option File) (ws : List ℕ) → live_at o ≡ true → live_at (extended o ws) ≡ true
live_more None ws e = e
live_more (Some f) ws e = e

pub some_shut : (o : Option File) → is_some o ≡ true → is_some (shut o) ≡ true
some_shut None e = e
some_shut (Some f) e = refl

module _ (w maximum : ℕ) where
  -- another file with the same batches will do for a finished record
  pub stored_ended : (o p : Option File) (r : FileRecord) → Stored w maximum o r → batches_of p ≡ batches_of o → is_some p ≡ true → Stored w maximum p (ended r)
  stored_ended o p r s b i = record {
    there = i;
    written = ap length b ∙ s.written;
    wide = subst (AllByRecursion (λ ws. length ws ≡ w)) (sym b) s.wide;
    read = s.read;
    most = s.most;
    sum = s.sum;
    live = λ f. absurd (both_ways true f refl);
    short = λ f. absurd (both_ways true f refl);
    light = λ f. absurd (both_ways true f refl);
  }

-- what is known of a write to the file r of the store fs, which adds batches to what is left to read
pub record Wrote {P : Type 0} (k : Kind P) (s : Setup) (r : FileRecord) (fs : Files) (v : Written) (added : List P) : Type 0 where
  pub good : Stored k.width s.maximum (v.store r.number) v.file
  pub same : v.file.number ≡ r.number
  pub read : v.file.read ≡ r.read
  pub others : (n : ℕ) → eqb r.number n ≡ false → v.store n ≡ fs n
  pub unread : map k.reading (left (v.store r.number) v.file) ≡ map k.reading (left (fs r.number) r) ++ added
  pub some : is_spent v.file ≡ false → 0 < v.file.written

module _ {P : Type 0} (k : Kind P) (law : Lawful k) (s : Setup) (most : s.maximum ≤ 2 ^ 40) (x : P) (r : FileRecord) (fs : Files)
    (open' : r.finished ≡ false) (good : Stored k.width s.maximum (fs r.number) r) where
  abbrev n : ℕ
  n = r.number

  abbrev ws : List ℕ
  ws = k.words x

  abbrev gs : Files
  gs = put fs n (extended (fs n) ws)

  abbrev q : FileRecord
  q = grown r (k.size x)

  here : gs n ≡ extended (fs n) ws
  here = put_here fs n (extended (fs n) ws)

  batches : batches_of (gs n) ≡ batches_of (fs n) ++ ws ∷ []
  batches = ap batches_of here ∙ batches_more (fs n) ws good.there

  there : is_some (gs n) ≡ true
  there = ap is_some here ∙ some_more (fs n) ws good.there

  -- the record y is that of the file with the batch, finished or still open
  stored_more : (y : FileRecord) → y.written ≡ r.written + 1 → y.read ≡ r.read → y.sum ≡ r.sum + k.size x →
      (y.finished ≡ false → y.written < 2 ^ 32) → (y.finished ≡ false → y.sum ≤ s.maximum) → Stored k.width s.maximum (gs n) y
  stored_more y ew er es a b =
      let h = good.short open' in let l = good.light open' in let rd = good.read in let z = law.small x in
      record {
        there = there;
        written = ap length batches ∙ length-append (batches_of (fs n)) (ws ∷ []) ∙ ap (λ (u : ℕ). u + 1) good.written ∙ sym ew;
        wide = subst (AllByRecursion (λ v. length v ≡ k.width)) (sym batches) (All-push (λ v. length v ≡ k.width) (batches_of (fs n)) ws good.wide (law.long x));
        read = omega arith;
        most = omega arith;
        sum = omega arith;
        live = λ f. ap live_at here ∙ live_more (fs n) ws (good.live open');
        short = a;
        light = b;
      }

  unread_more : map k.reading (drop r.read (batches_of (gs n))) ≡ map k.reading (left (fs n) r) ++ x ∷ []
  unread_more =
      let l : r.read ≤ length (batches_of (fs n)) = let a = good.read in let b = good.written in omega arith in
      ap (λ (u : List (List ℕ)). map k.reading (drop r.read u)) batches
      ∙ ap (map k.reading) (drop-append-le r.read (batches_of (fs n)) (ws ∷ []) l)
      ∙ map-append k.reading (drop r.read (batches_of (fs n))) (ws ∷ [])
      ∙ ap (λ (y : P). map k.reading (left (fs n) r) ++ y ∷ []) (law.back x)

  -- a full file is finished, whatever the store says
  finish_here : (f : Result (Unit {0}) Cause) → (batches_of (finish_after gs n f n) ≡ batches_of (gs n)) × (is_some (finish_after gs n f n) ≡ true)
  finish_here (Ok u) = (ap batches_of (put_here gs n (shut (gs n))) ∙ batches_shut (gs n), ap is_some (put_here gs n (shut (gs n))) ∙ some_shut (gs n) there)
  finish_here (Err c) = (refl, there)

  finish_there : (f : Result (Unit {0}) Cause) (j : ℕ) → eqb n j ≡ false → finish_after gs n f j ≡ fs j
  finish_there (Ok u) j e = put_there gs n j (shut (gs n)) e ∙ put_there fs n j (extended (fs n) ws) e
  finish_there (Err c) j e = put_there fs n j (extended (fs n) ws) e

  rotated : (f : Result (Unit {0}) Cause) → Wrote k s r fs (rotate s q gs f) (keeps x (Ok (rotate s q gs f).answer))
  rotated f =
      cond_both (is_full s q) _ _ (λ (v : Written). Wrote k s r fs v (keeps x (Ok v.answer)))
      (λ _. record {
        good = stored_ended k.width s.maximum (gs n) (finish_after gs n f n) (ended q) (stored_more (ended q) refl refl refl (λ e. absurd (both_ways true e refl)) (λ e. absurd (both_ways true e refl))) (finish_here f).0 (finish_here f).1;
        same = refl;
        read = refl;
        others = finish_there f;
        unread = ap (λ (u : List (List ℕ)). map k.reading (drop r.read u)) (finish_here f).0 ∙ unread_more;
        some = λ _. omega arith;
      })
      (λ e. let o = or_parts (ltb s.maximum q.sum) (leb (2 ^ 32) q.written) e in record {
        good = stored_more q refl refl refl (λ _. leb-false (2 ^ 32) q.written o.1) (λ _. ltb-false s.maximum q.sum o.0);
        same = refl;
        read = refl;
        others = λ j h. put_there fs n j (extended (fs n) ws) h;
        unread = unread_more;
        some = λ _. omega arith;
      })

  wrote_by : (a : Replies) (p : Result (Unit {0}) Cause) → Wrote k s r fs (write_by s r fs (batch_of k x) a p) (keeps x (Ok (write_by s r fs (batch_of k x) a p).answer))
  wrote_by a (Ok u) = rotated a.finish
  wrote_by a (Err c) = record {
    good = stored_ended k.width s.maximum (fs n) (fs n) r good refl good.there;
    same = refl;
    read = refl;
    others = λ j h. refl;
    unread = sym (append-nil (map k.reading (left (fs n) r)));
    some = λ e. by e good.read;
  }
    where
      by : is_spent (ended r) ≡ false → r.read ≤ r.written → 0 < r.written
      by e l = ⊎_elim (λ (h : true ≡ false). absurd (both_ways true h refl)) (λ (h : eqb r.read r.written ≡ false). let d = eqb-false r.read r.written h in omega arith) (and_cases true (eqb r.read r.written) e)

  pub wrote : (a : Replies) → Wrote k s r fs (write s r fs (batch_of k x) a) (keeps x (Ok (write s r fs (batch_of k x) a).answer))
  unfolding write
  wrote a = wrote_by a a.append
