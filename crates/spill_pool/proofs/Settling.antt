-- A file goes behind or before the others, or is spent and removed: the pool stays sound, and nothing unread is lost. Assumes nothing.
use Rattle.std.proofs.Common.{◌≡◌, ℕ, ◌<◌, true, false, eqb, List, [], ◌∷◌, ◌++◌, map, length, drop, Some, None, Option, sym, refl, ap, ◌∙◌, subst, ⊎_elim, arith}
use lib.Seq.{drop-append_seam}
use Rattle.std.specs.List.{AllByRecursion}
use Rattle.std.proofs.ByRecursion.{All-push}
use Rattle.std.proofs.lemmas.List.{append-nil, append_assoc}
use Rattle.std.proofs.lemmas.Bool.{cases_Bool, cond-true, cond-false, eq-eqb, eqb-true, eqb-false, and_parts, and_cases, or_left, or_right, both_ways}
use Rattle.bank.specs.Lists.{older, rest, push}
use Rattle.resources.specs.Files.{File, Files, put, remove_after}
use Rattle.resources.specs.History.{batches_of}
use Rattle.spill_pool.specs.declared.FileRecord.{FileRecord}
use Rattle.spill_pool.specs.Meaning.{Stored, Used, Sound, Apart, is_spent, among, left, unread}
use Rattle.spill_pool.specs.Steps.{listed, swept, pool}
use Rattle.spill_pool.proofs.Listing.{Agree, agree_put, older-push, open_push, open_finished, apart_push, rest-push}

module _ (w maximum : ℕ) where
  -- the files of the list stand in the store
  abbrev pub AllStored : Files → List FileRecord → Type 0
  AllStored fs rs = AllByRecursion (λ r. Stored w maximum (fs r.number) r) rs

  pub stored_agree : (fs gs : Files) (rs : List FileRecord) → Agree rs fs gs → AllStored fs rs → AllStored gs rs
  stored_agree fs gs [] a s = tt
  stored_agree fs gs (r ∷ rs) a (p, q) = (
    subst (λ (o : Option File). Stored w maximum o r) (sym (a r.number (or_left _ _ (eq-eqb r.number r.number refl)))) p,
    stored_agree fs gs rs (λ n e. a n (or_right _ _ e)) q,
  )

  module _ {P : Type 0} (reading : List ℕ → P) where
    pub unread_agree : (fs gs : Files) (rs : List FileRecord) → Agree rs fs gs → unread reading gs rs ≡ unread reading fs rs
    unread_agree fs gs [] a = refl
    unread_agree fs gs (r ∷ rs) a =
        ap (λ (o : Option File). map reading (left o r) ++ unread reading gs rs) (a r.number (or_left _ _ (eq-eqb r.number r.number refl)))
        ∙ ap (λ (u : List P). map reading (left (fs r.number) r) ++ u) (unread_agree fs gs rs (λ n e. a n (or_right _ _ e)))

    pub unread-push : (fs : Files) (rs : List FileRecord) (r : FileRecord) → unread reading fs (push rs r) ≡ unread reading fs rs ++ map reading (left (fs r.number) r)
    unread-push fs [] r = append-nil _
    unread-push fs (x ∷ xs) r =
        ap (λ (u : List P). map reading (left (fs x.number) x) ++ u) (unread-push fs xs r)
        ∙ sym (append_assoc (map reading (left (fs x.number) x)) (unread reading fs xs) (map reading (left (fs r.number) r)))

    -- nothing is left of a file that was read to its end
    pub left-none : (o : Option File) (r : FileRecord) → Stored w maximum o r → r.read ≡ r.written → map reading (left o r) ≡ []
    left-none o r s e =
        let q : r.read ≡ length (batches_of o) = e ∙ sym s.written in
        ap (map reading) (ap (λ (n : ℕ). drop n (batches_of o)) q ∙ ap (drop (length (batches_of o))) (sym (append-nil (batches_of o))) ∙ drop-append_seam (batches_of o) [])

  pub spent_parts : (r : FileRecord) → is_spent r ≡ true → (r.finished ≡ true) × (r.read ≡ r.written)
  spent_parts r e = let p = and_parts r.finished _ e in (p.0, eqb-true r.read r.written p.1)

  pub unspent : (o : Option File) (r : FileRecord) → Stored w maximum o r → is_spent r ≡ false → r.finished ≡ true → r.read < r.written
  unspent o r s e f =
      ⊎_elim
      (λ (x : r.finished ≡ false). absurd (both_ways r.finished x f))
      (λ (x : eqb r.read r.written ≡ false). let n = eqb-false r.read r.written x in let l = s.read in omega arith)
      (and_cases r.finished _ e)

  -- The file r of the store gs goes behind the files `before`.
  module _ (before : List FileRecord) (r : FileRecord) (gs : Files) (n : ℕ)
      (stored : AllStored gs before) (used : AllByRecursion Used before) (fresh : AllByRecursion (λ x. x.read ≡ 0) (rest before))
      (done : AllByRecursion (λ x. x.finished ≡ true) before) (apart : Apart before) (new : among r.number before ≡ false)
      (good : Stored w maximum (gs r.number) r) (some : is_spent r ≡ false → 0 < r.written) (first : (before ≡ [] → ⊥) → r.read ≡ 0)
      (idle : n ≡ 0 → r.finished ≡ true) where
    pub listed_sound : Sound w maximum (swept gs r) (pool (listed before r) n)
    listed_sound =
        ⊎_elim
        (λ (e : is_spent r ≡ true).
        subst (λ (rs : List FileRecord). Sound w maximum (swept gs r) (pool rs n)) (sym (cond-true (is_spent r) before (push before r) e))
        (subst (λ (hs : Files). Sound w maximum hs (pool before n)) (sym (cond-true (is_spent r) (remove_after gs r.number) gs e)) gone))
        (λ (e : is_spent r ≡ false).
        subst (λ (rs : List FileRecord). Sound w maximum (swept gs r) (pool rs n)) (sym (cond-false (is_spent r) before (push before r) e))
        (subst (λ (hs : Files). Sound w maximum hs (pool (push before r) n)) (sym (cond-false (is_spent r) (remove_after gs r.number) gs e)) (stays e)))
        (cases_Bool (is_spent r))
      where
        gone : Sound w maximum (remove_after gs r.number) (pool before n)
        gone = record {
          stored = stored_agree gs (put gs r.number None) before (agree_put before gs r.number None new) stored;
          used = used;
          fresh = fresh;
          order = older_all before done;
          apart = apart;
          idle = λ _. open_finished before done;
        }
          where
            older_all : (xs : List FileRecord) → AllByRecursion (λ x. x.finished ≡ true) xs → AllByRecursion (λ x. x.finished ≡ true) (older xs)
            older_all [] a = tt
            older_all (x ∷ []) a = tt
            older_all (x ∷ (y ∷ ys)) (p, q) = (p, older_all (y ∷ ys) q)

        fresh_more : (xs : List FileRecord) → xs ≡ before → AllByRecursion (λ x. x.read ≡ 0) (rest (push xs r))
        fresh_more [] e = tt
        fresh_more (x ∷ xs) e =
            rest-push (λ y. y.read ≡ 0) (x ∷ xs) r (subst (λ (u : List FileRecord). AllByRecursion (λ y. y.read ≡ 0) (rest u)) (sym e) fresh)
            (λ q. cc)
            (first (λ q. cc))

        stays : is_spent r ≡ false → Sound w maximum gs (pool (push before r) n)
        stays e = record {
          stored = All-push (λ x. Stored w maximum (gs x.number) x) before r stored good;
          used = All-push Used before r used (record { some = some e; over = unspent (gs r.number) r good e });
          fresh = fresh_more before refl;
          order = subst (AllByRecursion (λ x. x.finished ≡ true)) (sym (older-push before r)) done;
          apart = apart_push before r apart new;
          idle = λ z. open_push before r ∙ cond-true r.finished None (Some r) (idle z);
        }

    pub listed-unread : {P : Type 0} (reading : List ℕ → P) → unread reading (swept gs r) (listed before r) ≡ unread reading gs before ++ map reading (left (gs r.number) r)
    listed-unread reading =
        ⊎_elim
        (λ (e : is_spent r ≡ true).
        ap (unread reading (swept gs r)) (cond-true (is_spent r) before (push before r) e)
        ∙ ap (λ (hs : Files). unread reading hs before) (cond-true (is_spent r) (remove_after gs r.number) gs e)
        ∙ unread_agree reading gs (remove_after gs r.number) before (agree_put before gs r.number None new)
        ∙ sym (append-nil _)
        ∙ ap (λ u. unread reading gs before ++ u) (sym (left-none reading (gs r.number) r good (spent_parts r e).1)))
        (λ (e : is_spent r ≡ false).
        ap (unread reading (swept gs r)) (cond-false (is_spent r) before (push before r) e)
        ∙ ap (λ (hs : Files). unread reading hs (push before r)) (cond-false (is_spent r) (remove_after gs r.number) gs e)
        ∙ unread-push reading gs before r)
        (cases_Bool (is_spent r))
