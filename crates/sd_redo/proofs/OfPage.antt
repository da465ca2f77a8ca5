-- The records of a log that change a page, by their indexes. It serves the goals of change.rt.
use Rattle.std.proofs.Common.{◌≡◌, ℕ, suc, ◌+◌, ◌<◌, Bool, true, false, cond, eqb, List, [], ◌∷◌, ◌++◌, length, map, get_or, refl, sym, ap, ap₂, ◌∙◌, arith, ne_eqb}
use Rattle.std.specs.Prelude.{All, filter}
use Rattle.std.proofs.lemmas.List.{append_assoc, get_or-append-add, length-append}
use Rattle.std.proofs.lemmas.List.Elements.{All-cons, All-nil, All-weaker, filter_agree}
use Rattle.sd_logrec.specs.declared.record.Record.{Record}
use Rattle.sd_logrec.specs.declared.record.Record.TheVariants as records
use Rattle.sd_logrec.specs.View.{flat}
use Rattle.sd_log.specs.declared.placed.Placed.{Placed}
use Rattle.sd_log.specs.ByPage.{changed_page, changed_pages, places_of}
use Rattle.sd_chain.specs.Records.{of_page}
use Rattle.sd_redo.specs.Changes.{is_of}

-- a record of the page
abbrev pub on : ℕ → Placed → Bool
on p x = eqb (changed_page x.rec) p

-- the same, as chains see it
pub on_page : (p : ℕ) → p < 1024 → (x : Placed) → on p x ≡ of_page p (flat x.rec)
on_page p lt x = go x.rec
  where
    past : eqb 1024 p ≡ false
    past = ne_eqb 1024 p (λ e. absurd (omega arith))

    go : (r : Record) → eqb (changed_page r) p ≡ of_page p (flat r)
    go (records.Start lsn epoch) = past
    go (records.Update lsn txn prev page slot capacity before after) = refl
    go (records.Clr lsn txn prev undo_next page slot after) = refl
    go (records.Commit lsn txn prev) = past
    go (records.End lsn txn prev) = past
    go (records.BeginCheck lsn) = past
    go (records.EndCheck lsn begin spans recs) = past

-- the records at the indexes
pub records_at : (d : Placed) (p : ℕ) (front xs : List Placed)
    → map (λ i. get_or (front ++ xs) i d) (places_of p (length front) (changed_pages xs)) ≡ filter (on p) xs
records_at d p front [] = refl
records_at d p front (x ∷ xs) =
    let moved : front ++ x ∷ xs ≡ (front ++ x ∷ []) ++ xs = sym (append_assoc front (x ∷ []) xs) in
    let longer : suc (length front) ≡ length (front ++ x ∷ []) = omega (arith, length-append front (x ∷ [])) in
    go (eqb (changed_page x.rec) p)
    (ap₂ (λ (l : List Placed) (n : ℕ). map (λ i. get_or l i d) (places_of p n (changed_pages xs))) moved longer
    ∙ records_at d p (front ++ x ∷ []) xs)
  where
    at_index : ℕ → Placed
    at_index i = get_or (front ++ x ∷ xs) i d

    behind : List ℕ
    behind = places_of p (suc (length front)) (changed_pages xs)

    first : at_index (length front) ≡ x
    first = ap at_index (omega arith) ∙ get_or-append-add front (x ∷ xs) 0 d

    go : (b : Bool) → map at_index behind ≡ filter (on p) xs
        → map at_index (cond b (length front ∷ behind) behind) ≡ cond b (x ∷ filter (on p) xs) (filter (on p) xs)
    go true rest = ap₂ (λ (y : Placed) (l : List Placed). y ∷ l) first rest
    go false rest = rest

-- as many
pub as_many : (p n : ℕ) (xs : List Placed) → length (places_of p n (changed_pages xs)) ≡ length (filter (on p) xs)
as_many p n [] = refl
as_many p n (x ∷ xs) = go (eqb (changed_page x.rec) p) (as_many p (suc n) xs)
  where
    go : (b : Bool) → length (places_of p (suc n) (changed_pages xs)) ≡ length (filter (on p) xs)
        → length (cond b (n ∷ places_of p (suc n) (changed_pages xs)) (places_of p (suc n) (changed_pages xs)))
        ≡ length (cond b (x ∷ filter (on p) xs) (filter (on p) xs))
    go true e = ap suc e
    go false e = e

-- each index lies in the log
pub places_within : (p n : ℕ) (ys : List ℕ) → All (λ i. i < n + length ys) (places_of p n ys)
places_within p n [] = All-nil (λ i. i < n + 0)
places_within p n (y ∷ ys) =
    let P : ℕ → Type 0 = λ i. i < n + suc (length ys) in
    let rest : All P (places_of p (suc n) ys) =
    All-weaker (λ i. i < suc n + length ys) P (λ i lt. omega arith) (places_of p (suc n) ys) (places_within p (suc n) ys) in
    go (eqb y p) rest
  where
    go : (b : Bool) → All (λ i. i < n + suc (length ys)) (places_of p (suc n) ys)
        → All (λ i. i < n + suc (length ys)) (cond b (n ∷ places_of p (suc n) ys) (places_of p (suc n) ys))
    go true rest = All-cons (λ i. i < n + suc (length ys)) n (places_of p (suc n) ys) (omega arith) rest
    go false rest = rest

-- the page's records, as chains see them
pub filter_of : (p : ℕ) → p < 1024 → (xs : List Placed) → filter (on p) xs ≡ filter (is_of p) xs
filter_of p lt xs = filter_agree (on p) (is_of p) (on_page p lt) xs
