-- Entries and accounts, one after another. It serves the goals of summing.rt.
use Rattle.std.proofs.Common.{◌≡◌, ℕ, zero, suc, ◌+◌, ◌-◌, ◌≤◌, ◌<◌, Bool, true, false, List, [], ◌∷◌, ◌++◌, cond, eqb, length, take, drop, get_or, pos, ◌+ℤ◌, arith, refl, sym, ap, ap₂, ◌∙◌, add-one}
use Rattle.std.specs.Prelude.{ℤ, Option, None, Some, is_some}
use Rattle.std.specs.Option.{option_or, option_and_then, option_map}
use Rattle.std.specs.Map.{lookup}
use Rattle.std.proofs.lemmas.Bool.{eq-eqb, ne_eqb}
use Rattle.std.proofs.lemmas.List.{append-nil, take-append-drop, take_more}
use Rattle.sd_base.specs.declared.ids.Rid.{Rid}
use Rattle.sd_base.specs.Ids.{same_rid}
use Rattle.sd_model.specs.declared.event.Entry.{Entry}
use Rattle.sd_model.specs.declared.line.LineEntry.{LineEntry}
use Rattle.sd_model.specs.declared.packed.Noted.{Noted}
use Rattle.sd_model.specs.declared.packed.Noted.TheVariants as noted
use Rattle.sd_model.specs.Booked.{unpacked}
use Rattle.sd_report.specs.Report.{entries_of, rows_in, table_rows}
use Rattle.sd_report.specs.Summary.{account_rid, number_of, sum_of_both, total_of}

-- no more entries than notes and entries that stand whole
pub entries_within : (notes : List Noted) (lines : List LineEntry) (whole : List Entry)
    → length (unpacked notes lines whole) ≤ length notes + length whole
entries_within [] lines whole = omega arith
entries_within (noted.Help s p i d a n ∷ notes) lines whole = omega (arith, entries_within notes lines whole)
entries_within (noted.Line ∷ notes) [] whole = omega arith
entries_within (noted.Line ∷ notes) (l ∷ lines) whole = omega (arith, entries_within notes lines whole)
entries_within (noted.Whole ∷ notes) lines [] = omega arith
entries_within (noted.Whole ∷ notes) lines (e ∷ whole) = omega (arith, entries_within notes lines whole)

-- ---- the rows of a line

-- the rows of the line in one entry
pub own_one : (n : ℕ) (e : Entry) → e.line ≡ n → table_rows (entries_of n (e ∷ [])) ≡ rows_in e.reply
own_one n e own =
    ap (λ (b : Bool). table_rows (cond {A = List Entry} b (e ∷ []) [])) (eq-eqb e.line n own) ∙ append-nil (rows_in e.reply)

pub other_one : (n : ℕ) (e : Entry) → (e.line ≡ n → ⊥) → table_rows (entries_of n (e ∷ [])) ≡ []
other_one n e other = ap (λ (b : Bool). table_rows (cond {A = List Entry} b (e ∷ []) [])) (ne_eqb e.line n other)

-- those in the first of some entries, and in the others
pub rows_behind : (n : ℕ) (es rest : List Entry) (e : Entry) → es ≡ e ∷ rest
    → table_rows (entries_of n es) ≡ table_rows (entries_of n (e ∷ [])) ++ table_rows (entries_of n rest)
rows_behind n es rest e is = ap (λ (l : List Entry). table_rows (entries_of n l)) is ∙ go (eqb e.line n) where
  go : (own : Bool) → table_rows (cond {A = List Entry} own (e ∷ entries_of n rest) (entries_of n rest))
      ≡ table_rows (cond {A = List Entry} own (e ∷ []) []) ++ table_rows (entries_of n rest)
  go true = ap (λ (l : List (Rid × List ℕ)). l ++ table_rows (entries_of n rest)) (sym (append-nil (rows_in e.reply)))
  go false = refl

-- the value of a record among rows and those behind them
pub lookup_both : (rid : Rid) (xs ys : List (Rid × List ℕ))
    → lookup (same_rid rid) (xs ++ ys) ≡ option_or (lookup (same_rid rid) xs) (lookup (same_rid rid) ys)
lookup_both rid [] ys = refl
lookup_both rid (x ∷ xs) ys = go (same_rid rid x.0) (lookup_both rid xs ys) where
  go : (b : Bool) → lookup (same_rid rid) (xs ++ ys) ≡ option_or (lookup (same_rid rid) xs) (lookup (same_rid rid) ys)
      → cond {A = Option (List ℕ)} b (Some x.1) (lookup (same_rid rid) (xs ++ ys))
      ≡ option_or (cond {A = Option (List ℕ)} b (Some x.1) (lookup (same_rid rid) xs)) (lookup (same_rid rid) ys)
  go true others = refl
  go false others = others

-- a value that was copied is there where it was
pub mapped_some : {X Y : Type 0} (f : X → Y) (o : Option X) → is_some (option_map f o) ≡ is_some o
mapped_some f None = refl
mapped_some f (Some x) = refl

-- the value of a record in the rows of a line, by what is found in the first of some entries
module _ (rid : Rid) (n : ℕ) (es rest : List Entry) (e : Entry) (is : es ≡ e ∷ rest) (rows : List (Rid × List ℕ))
    (rows_are : rows ≡ table_rows (entries_of n (e ∷ []))) (found : Option (List ℕ)) (found_is : found ≡ lookup (same_rid rid) rows) where
  both : lookup (same_rid rid) (table_rows (entries_of n es))
      ≡ option_or found (lookup (same_rid rid) (table_rows (entries_of n rest)))
  both = ap (lookup (same_rid rid)) (rows_behind n es rest e is)
      ∙ lookup_both rid (table_rows (entries_of n (e ∷ []))) (table_rows (entries_of n rest))
      ∙ ap (λ (o : Option (List ℕ)). option_or o (lookup (same_rid rid) (table_rows (entries_of n rest))))
      (ap (lookup (same_rid rid)) (sym rows_are) ∙ sym found_is)

  there : (o later : Option (List ℕ)) → is_some o ≡ true → o ≡ option_or o later
  there None later some = absurd (cc)
  there (Some v) later some = refl

  gone : (o later : Option (List ℕ)) → is_some o ≡ false → later ≡ option_or o later
  gone None later none = refl
  gone (Some v) later none = absurd (cc)

  pub found_at : is_some found ≡ true → found ≡ lookup (same_rid rid) (table_rows (entries_of n es))
  found_at some = there found (lookup (same_rid rid) (table_rows (entries_of n rest))) some ∙ sym both

  pub none_yet : is_some found ≡ false
      → lookup (same_rid rid) (table_rows (entries_of n rest)) ≡ lookup (same_rid rid) (table_rows (entries_of n es))
  none_yet none = gone found (lookup (same_rid rid) (table_rows (entries_of n rest))) none ∙ sym both

-- among the first so many rows and one more
pub lookup_more : (rid : Rid) (rows : List (Rid × List ℕ)) (i : ℕ) (row : Rid × List ℕ) → i < length rows → row ≡ get_or rows i row
    → lookup (same_rid rid) (take i rows) ≡ None
    → lookup (same_rid rid) (take (i + 1) rows) ≡ cond {A = Option (List ℕ)} (same_rid rid row.0) (Some row.1) None
lookup_more rid rows i row lt is none =
    ap (lookup (same_rid rid)) (take_more rows i row lt ∙ ap (λ (x : Rid × List ℕ). take i rows ++ x ∷ []) (sym is))
    ∙ lookup_both rid (take i rows) (row ∷ [])
    ∙ ap (λ (o : Option (List ℕ)). option_or o (lookup (same_rid rid) (row ∷ []))) none

pub lookup_not_yet : (rid : Rid) (rows : List (Rid × List ℕ)) (i : ℕ) (row : Rid × List ℕ) → i < length rows → row ≡ get_or rows i row
    → same_rid rid row.0 ≡ false → lookup (same_rid rid) (take i rows) ≡ None → lookup (same_rid rid) (take (i + 1) rows) ≡ None
lookup_not_yet rid rows i row lt is other none =
    lookup_more rid rows i row lt is none ∙ ap (λ (b : Bool). cond {A = Option (List ℕ)} b (Some row.1) None) other

pub lookup_here : (rid : Rid) (rows : List (Rid × List ℕ)) (i : ℕ) (row : Rid × List ℕ) → i < length rows → row ≡ get_or rows i row
    → same_rid rid row.0 ≡ true → lookup (same_rid rid) (take i rows) ≡ None → Some row.1 ≡ lookup (same_rid rid) rows
lookup_here rid rows i row lt is own none =
    let found = lookup_more rid rows i row lt is none ∙ ap (λ (b : Bool). cond {A = Option (List ℕ)} b (Some row.1) None) own in
    sym (ap (lookup (same_rid rid)) (sym (take-append-drop (i + 1) rows))
    ∙ lookup_both rid (take (i + 1) rows) (drop (i + 1) rows)
    ∙ ap (λ (o : Option (List ℕ)). option_or o (lookup (same_rid rid) (drop (i + 1) rows))) found)

-- ---- the sum of accounts

-- the number of an account among rows
abbrev pub number_at : ℕ → List (Rid × List ℕ) → Option ℤ
number_at n rows = option_and_then number_of (lookup (same_rid (account_rid n)) rows)

one_more : (n : ℕ) (rows : List (Rid × List ℕ)) → total_of (suc n) rows ≡ sum_of_both (total_of n rows) (number_at n rows)
unfolding total_of
one_more n rows = refl

pub none_of_them : (rows : List (Rid × List ℕ)) → total_of 0 rows ≡ Some (pos 0)
unfolding total_of
none_of_them rows = refl

pub total_more : (n : ℕ) (rows : List (Rid × List ℕ)) (a b : ℤ) → total_of n rows ≡ Some a → number_at n rows ≡ Some b
    → total_of (n + 1) rows ≡ Some (a +ℤ b)
total_more n rows a b so_far one =
    ap (λ (k : ℕ). total_of k rows) (add-one n) ∙ one_more n rows ∙ ap₂ sum_of_both so_far one

-- without a number of one of them there is no sum of all
no_sum : (o : Option ℤ) → sum_of_both o None ≡ None
no_sum None = refl
no_sum (Some a) = refl

still_none : (n more : ℕ) (rows : List (Rid × List ℕ)) → total_of n rows ≡ None → total_of (more + n) rows ≡ None
still_none n zero rows none = ap (λ (k : ℕ). total_of k rows) (let same : 0 + n ≡ n = omega arith in same) ∙ none
still_none n (suc more) rows none =
    ap (λ (k : ℕ). total_of k rows) (let same : suc more + n ≡ suc (more + n) = omega arith in same) ∙ one_more (more + n) rows
    ∙ ap (λ (o : Option ℤ). sum_of_both o (number_at (more + n) rows)) (still_none n more rows none)

pub no_total : (n most : ℕ) (rows : List (Rid × List ℕ)) → number_at n rows ≡ None → n < most → total_of most rows ≡ None
no_total n most rows none lt =
    let here : total_of (suc n) rows ≡ None = one_more n rows ∙ ap (sum_of_both (total_of n rows)) none ∙ no_sum (total_of n rows) in
    ap (λ (k : ℕ). total_of k rows) (let same : most ≡ (most - suc n) + suc n = omega (arith, lt) in same)
    ∙ still_none (suc n) (most - suc n) rows here
