-- The rows of a page's slots are the records of a table that has what the slots have. For `list_page`.
use Rattle.std.proofs.Common.{◌≡◌, ◌≢◌, ⊎_elim, ℕ, zero, suc, ◌<◌, ◌≤◌, Bool, true, false, cond, List, [], ◌∷◌, ◌++◌, length, refl, sym, ap, ◌∙◌, arith}
use Rattle.std.specs.Prelude.{None, Some}
use Rattle.std.proofs.lemmas.Bool.{cases_eq, cases_lt}
use Rattle.sd_base.specs.Ids.{same_rid}
use Rattle.sd_base.specs.declared.ids.Rid.{Rid}
use Rattle.sd_base.proofs.SameIds.{eq-same_rid, ne-same_rid}
use Rattle.sd_model.specs.Listing.{AreIn, AreRising, AreRows, StartsAbove}
use Rattle.sd_model.specs.Tables.{Content, Contents, contents}
use Rattle.sd_page.specs.Page.{Slot, value_at}
use Rattle.sd_ops.specs.Listing.{row_at, rows_below}

abbrev Table : Type 0
Table = List (Rid × List ℕ)

-- ---- lists of rows, one behind another

back-none : (xs ys : Table) (r : Rid) → contents ys r ≡ None → contents (xs ++ ys) r ≡ contents xs r
back-none [] ys r none = none
back-none (x ∷ xs) ys r none = ap (λ (o : Content). cond {A = Content} (same_rid r x.0) (Some x.1) o) (back-none xs ys r none)

front-none : (xs ys : Table) (r : Rid) → contents xs r ≡ None → contents (xs ++ ys) r ≡ contents ys r
front-none [] ys r none = refl
front-none (x ∷ xs) ys r none = by (same_rid r x.0) none (front-none xs ys r)
  where
    by : (b : Bool) → cond {A = Content} b (Some x.1) (contents xs r) ≡ None
        → (contents xs r ≡ None → contents (xs ++ ys) r ≡ contents ys r)
        → cond {A = Content} b (Some x.1) (contents (xs ++ ys) r) ≡ contents ys r
    by true e ih = absurd (cc)
    by false e ih = ih e

-- ---- the row of a slot

row-here : (p s : ℕ) (v : Content) (r : Rid) → r.page ≡ p → r.slot ≡ s → contents (row_at p s v) r ≡ v
row-here p s None r page slot = refl
row-here p s (Some v) r page slot =
    ap (λ (b : Bool). cond {A = Content} b (Some v) None) (eq-same_rid r (record { page = p; slot = s }) (λ i. record { page = page i; slot = slot i }))

row-elsewhere : (p s : ℕ) (v : Content) (r : Rid) → r.slot ≢ s → contents (row_at p s v) r ≡ None
row-elsewhere p s None r ne = refl
row-elsewhere p s (Some v) r ne =
    ap (λ (b : Bool). cond {A = Content} b (Some v) None) (ne-same_rid r (record { page = p; slot = s }) (λ e. ne (ap (λ (q : Rid). q.slot) e)))

-- ---- the rows of slots

rows-above : (p : ℕ) (slots : List Slot) (n : ℕ) (r : Rid) → n ≤ r.slot → contents (rows_below p slots n) r ≡ None
rows-above p slots zero r above = refl
rows-above p slots (suc n) r above =
    let ne : r.slot ≢ n = omega (arith, above) in
    back-none (rows_below p slots n) (row_at p n (value_at slots n)) r (row-elsewhere p n (value_at slots n) r ne)
    ∙ rows-above p slots n r (omega (arith, above))

rows-there : (p : ℕ) (slots : List Slot) (n : ℕ) (r : Rid) → r.page ≡ p → r.slot < n → contents (rows_below p slots n) r ≡ value_at slots r.slot
rows-there p slots zero r page below = absurd (omega (arith, below))
rows-there p slots (suc n) r page below = ⊎_elim
    (λ e. front-none (rows_below p slots n) (row_at p n (value_at slots n)) r (rows-above p slots n r (omega (arith, e)))
    ∙ row-here p n (value_at slots n) r page e ∙ ap (value_at slots) (sym e))
    (λ ne. back-none (rows_below p slots n) (row_at p n (value_at slots n)) r (row-elsewhere p n (value_at slots n) r ne)
    ∙ rows-there p slots n r page (omega (arith, below, ne)))
    (cases_eq r.slot n)

rows-inside : (p : ℕ) (slots : List Slot) (n : ℕ) → AreIn p (rows_below p slots n)
rows-inside p slots zero = tt
rows-inside p slots (suc n) = append-in (rows_below p slots n) (row_at p n (value_at slots n)) (rows-inside p slots n) (row-in (value_at slots n))
  where
    append-in : (xs ys : Table) → AreIn p xs → AreIn p ys → AreIn p (xs ++ ys)
    append-in [] ys a b = b
    append-in (x ∷ xs) ys a b = (a.0, append-in xs ys a.1 b)

    row-in : (v : Content) → AreIn p (row_at p n v)
    row-in None = tt
    row-in (Some v) = (refl, tt)

-- each row's slot is below n
AreUnder : ℕ → Table → Type 0
AreUnder n [] = Unit {0}
AreUnder n (row ∷ rows) = (row.0.slot < n) × AreUnder n rows

under-more : (n : ℕ) (xs : Table) → AreUnder n xs → AreUnder (suc n) xs
unfolding AreUnder
under-more n [] u = tt
under-more n (x ∷ xs) u = let h = u.0 in (omega (arith, h), under-more n xs u.1)

under-append : (n : ℕ) (xs ys : Table) → AreUnder n xs → AreUnder n ys → AreUnder n (xs ++ ys)
unfolding AreUnder
under-append n [] ys a b = b
under-append n (x ∷ xs) ys a b = (a.0, under-append n xs ys a.1 b)

rows-under : (p : ℕ) (slots : List Slot) (n : ℕ) → AreUnder n (rows_below p slots n)
unfolding AreUnder
rows-under p slots zero = tt
rows-under p slots (suc n) = under-append (suc n) (rows_below p slots n) (row_at p n (value_at slots n))
    (under-more n (rows_below p slots n) (rows-under p slots n)) (row-under (value_at slots n))
  where
    row-under : (v : Content) → AreUnder (suc n) (row_at p n v)
    row-under None = tt
    row-under (Some v) = (omega arith, tt)

rising-more : (p n : ℕ) (v : Content) (xs : Table) → AreUnder n xs → AreRising xs → AreRising (xs ++ row_at p n v)
unfolding AreUnder
rising-more p n None [] u rising = tt
rising-more p n (Some v) [] u rising = (tt, tt)
rising-more p n v (x ∷ []) u rising = (above v u.0, rising-more p n v [] tt tt)
  where
    above : (v : Content) → x.0.slot < n → StartsAbove x.0.slot (row_at p n v)
    above None under = tt
    above (Some v) under = under
rising-more p n v (x ∷ y ∷ xs) u rising = (rising.0, rising-more p n v (y ∷ xs) u.1 rising.1)

rows-rising : (p : ℕ) (slots : List Slot) (n : ℕ) → AreRising (rows_below p slots n)
rows-rising p slots zero = tt
rows-rising p slots (suc n) = rising-more p n (value_at slots n) (rows_below p slots n) (rows-under p slots n) (rows-rising p slots n)

past-end : (slots : List Slot) (s : ℕ) → length slots ≤ s → value_at slots s ≡ None
past-end [] s past = refl
past-end (x ∷ xs) zero past = absurd (omega (arith, past))
past-end (x ∷ xs) (suc s) past = past-end xs s (omega (arith, past))

-- the rows of all slots
pub rows-are : (p : ℕ) (slots : List Slot) (table : Contents) → ((r : Rid) → r.page ≡ p → value_at slots r.slot ≡ table r)
    → AreRows p table (rows_below p slots (length slots))
rows-are p slots table same = record {
  inside = rows-inside p slots (length slots);
  rising = rows-rising p slots (length slots);
  same = λ r page. ⊎_elim
      (λ below. rows-there p slots (length slots) r page below ∙ same r page)
      (λ past. rows-above p slots (length slots) r past ∙ sym (past-end slots r.slot past) ∙ same r page)
      (cases_lt r.slot (length slots));
}
