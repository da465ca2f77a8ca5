-- The entries of one line, one more at a time. It serves the goals of part_at, part_unnoted, push_own_rows
-- and push_line.
use Rattle.std.proofs.Common.{◌≡◌, ℕ, Bool, true, false, List, [], ◌∷◌, ◌++◌, cond, eqb, ltb, length, ◌<◌, ◌≤◌, ◌+◌, ◌-◌, zero, suc, arith, append_assoc, length-append, refl, sym, ap, ◌∙◌}
use Rattle.std.specs.Prelude.{Option, None, Some, slice_get}
use Rattle.std.specs.List.{flat_map}
use Rattle.std.specs.Option.{option_or}
use Rattle.std.proofs.lemmas.Bool.{eqb-true, eq-eqb, ne_eqb, lt-ltb, le-ltb}
use Rattle.std.proofs.lemmas.List.{append-nil}
use Rattle.std.proofs.lemmas.List.Concat.{flat_map-cons}
use Rattle.std.proofs.lemmas.Grind.{flat_map-append}
use Rattle.sd_base.specs.declared.ids.Rid.{Rid}
use Rattle.sd_model.specs.declared.event.Entry.{Entry}
use Rattle.sd_model.specs.declared.packed.Noted.{Noted}
use Rattle.sd_model.specs.declared.packed.Noted.TheVariants as noted
use Rattle.sd_model.specs.Shorts.{help_entry}
use Rattle.sd_report.specs.Report.{entries_of, last_entry, row_line, rows_in, table_rows, upto, behind}

-- the last entry of the line, where this one was the last before these
abbrev pub last_upto : ℕ → Option Entry → List Entry → Option Entry
last_upto n last [] = last
last_upto n last (e ∷ es) =
    cond {A = Option Entry} (ltb n e.line) last (last_upto n (cond {A = Option Entry} (eqb e.line n) (Some e) last) es)

abbrev last_or : Option Entry → List Entry → Option Entry
last_or last [] = last
last_or last (e ∷ es) = last_or (Some e) es

last_here : (x : Entry) (es : List Entry) → last_or (Some x) es ≡ last_entry (x ∷ es)
last_here x [] = refl
last_here x (e ∷ es) =
    let count : length (x ∷ e ∷ es) - 1 ≡ suc (length (e ∷ es) - 1) = omega arith in
    last_here e es ∙ sym (ap (slice_get (x ∷ e ∷ es)) count)

one_of_line : (n : ℕ) (e : Entry) (es : List Entry) (own : Bool) → eqb e.line n ≡ own
    → entries_of n (e ∷ es) ≡ cond {A = List Entry} own (e ∷ entries_of n es) (entries_of n es)
one_of_line n e es own is = ap (λ (b : Bool). cond {A = List Entry} b (e ∷ entries_of n es) (entries_of n es)) is

last_of_line : (n : ℕ) (last : Option Entry) (es : List Entry) → last_upto n last es ≡ last_or last (entries_of n (upto n es))
last_of_line n last [] = refl
last_of_line n last (e ∷ es) = go (λ l. last_of_line n l es) (ltb n e.line) (eqb e.line n) refl where
  go : ((l : Option Entry) → last_upto n l es ≡ last_or l (entries_of n (upto n es))) → (later own : Bool) → eqb e.line n ≡ own
      → cond {A = Option Entry} later last (last_upto n (cond {A = Option Entry} own (Some e) last) es)
      ≡ last_or last (entries_of n (cond {A = List Entry} later [] (e ∷ upto n es)))
  go others true own is = refl
  go others false true is = others (Some e)
      ∙ sym (ap (last_or last) (one_of_line n e (upto n es) true is))
  go others false false is = others last
      ∙ sym (ap (last_or last) (one_of_line n e (upto n es) false is))

pub last_none : (n : ℕ) (es : List Entry) → last_upto n None es ≡ last_entry (entries_of n (upto n es))
last_none n es = last_of_line n None es ∙ at (entries_of n (upto n es)) where
  at : (own : List Entry) → last_or None own ≡ last_entry own
  at [] = refl
  at (e ∷ own) = last_here e own

-- the same, where there was a last before these
pub last_or_before : (n : ℕ) (last : Option Entry) (es : List Entry)
    → last_upto n last es ≡ option_or (last_entry (entries_of n (upto n es))) last
last_or_before n last es = last_of_line n last es ∙ at (entries_of n (upto n es)) where
  one : (x : Entry) (own : List Entry) → last_or (Some x) own ≡ option_or (last_or (Some x) own) last
  one x [] = refl
  one x (e ∷ own) = one e own

  at : (own : List Entry) → last_or last own ≡ option_or (last_entry own) last
  at [] = refl
  at (e ∷ own) = one e own ∙ ap (λ (l : Option Entry). option_or l last) (last_here e own)

-- behind the last of the line, where the first of some entries is of a later line
pub later_last : (n : ℕ) (es rest : List Entry) (e : Entry) → es ≡ e ∷ rest → ltb n e.line ≡ true → (last : Option Entry)
    → last_upto n last es ≡ last
later_last n es rest e is later last = ap (last_upto n last) is ∙ ap (λ (b : Bool). cond {A = Option Entry} b last
    (last_upto n (cond {A = Option Entry} (eqb e.line n) (Some e) last) rest)) later

-- the same of the entries from the first of a later line on
pub later_behind : (n : ℕ) (es rest : List Entry) (e : Entry) → es ≡ e ∷ rest → n < e.line → behind n es ≡ es
later_behind n es rest e is later = ap (behind n) is
    ∙ ap (λ (b : Bool). cond {A = List Entry} b (e ∷ rest) (behind n rest)) (lt-ltb n e.line later) ∙ sym is

-- where the first of some entries is of this line or an earlier one
module _ (n : ℕ) (es rest : List Entry) (e : Entry) (is : es ≡ e ∷ rest) (early : e.line ≤ n) where
  pub early_behind : behind n rest ≡ behind n es
  early_behind = sym (ap (behind n) is
      ∙ ap (λ (b : Bool). cond {A = List Entry} b (e ∷ rest) (behind n rest)) (le-ltb n e.line early))

  early_last : (own : Bool) → eqb e.line n ≡ own → (last : Option Entry)
      → last_upto n (cond {A = Option Entry} own (Some e) last) rest ≡ last_upto n last es
  early_last own of last = sym (ap (last_upto n last) is
      ∙ ap (λ (b : Bool). cond {A = Option Entry} b last
      (last_upto n (cond {A = Option Entry} (eqb e.line n) (Some e) last) rest)) (le-ltb n e.line early)
      ∙ ap (λ (b : Bool). last_upto n (cond {A = Option Entry} b (Some e) last) rest) of)

  pub own_last : e.line ≡ n → (last : Option Entry) → last_upto n (Some e) rest ≡ last_upto n last es
  own_last own last = early_last true (eq-eqb e.line n own) last

  pub other_last : (e.line ≡ n → ⊥) → (last : Option Entry) → last_upto n last rest ≡ last_upto n last es
  other_last other last = early_last false (ne_eqb e.line n other) last

-- the rows of the line, by the first of some entries
module _ (n : ℕ) (es rest : List Entry) (e : Entry) (is : es ≡ e ∷ rest) where
  pub later_rows : n < e.line → table_rows (entries_of n (upto n es)) ≡ []
  later_rows later = ap (λ (l : List Entry). table_rows (entries_of n (upto n l))) is
      ∙ ap (λ (b : Bool). table_rows (entries_of n (cond {A = List Entry} b [] (e ∷ upto n rest)))) (lt-ltb n e.line later)

  early_own : e.line ≤ n → (own : Bool) → eqb e.line n ≡ own
      → entries_of n (upto n es) ≡ cond {A = List Entry} own (e ∷ entries_of n (upto n rest)) (entries_of n (upto n rest))
  early_own early own of = ap (λ (l : List Entry). entries_of n (upto n l)) is
      ∙ ap (λ (b : Bool). entries_of n (cond {A = List Entry} b [] (e ∷ upto n rest))) (le-ltb n e.line early)
      ∙ one_of_line n e (upto n rest) own of

  pub own_rows : e.line ≡ n → table_rows (entries_of n (upto n es)) ≡ rows_in e.reply ++ table_rows (entries_of n (upto n rest))
  own_rows own = ap table_rows (early_own (omega (arith, own)) true (eq-eqb e.line n own))
      ∙ flat_map-cons (λ (x : Entry). rows_in x.reply) e (entries_of n (upto n rest))

  pub other_rows : e.line ≤ n → (e.line ≡ n → ⊥)
      → table_rows (entries_of n (upto n es)) ≡ table_rows (entries_of n (upto n rest))
  other_rows early other = ap table_rows (early_own early false (ne_eqb e.line n other))

-- some rows, and those behind them
module _ (rows after all : List (Rid × List ℕ)) (parts : all ≡ rows ++ after) where
  pub rows_text : (out new : List ℕ) → new ≡ out ++ flat_map row_line rows
      → new ++ flat_map row_line after ≡ out ++ flat_map row_line all
  rows_text out new is =
      ap (λ (l : List ℕ). l ++ flat_map row_line after) is
      ∙ append_assoc out (flat_map row_line rows) (flat_map row_line after)
      ∙ ap (λ (l : List ℕ). out ++ l) (sym (flat_map-append row_line rows after) ∙ ap (flat_map row_line) (sym parts))

  pub rows_count : length all ≡ length rows + length after
  rows_count = ap length parts ∙ length-append rows after

-- no rows are left
pub rows_end : (left all : List (Rid × List ℕ)) → left ≡ [] → (out old : List ℕ)
    → out ++ flat_map row_line left ≡ old ++ flat_map row_line all → out ≡ old ++ flat_map row_line all
rows_end left all none out old so_far = sym (append-nil out) ∙ ap (λ (l : List (Rid × List ℕ)). out ++ flat_map row_line l) (sym none)
    ∙ so_far

-- an entry of a line carries its number
of_line : (n : ℕ) (es : List Entry) (k : ℕ) (e : Entry) → slice_get (entries_of n es) k ≡ Some e → e.line ≡ n
of_line n [] k e is = absurd (cc)
of_line n (x ∷ xs) k e is = go (λ k. of_line n xs k e) (eqb x.line n) refl k is where
  go : ((k : ℕ) → slice_get (entries_of n xs) k ≡ Some e → e.line ≡ n) → (own : Bool) → eqb x.line n ≡ own → (k : ℕ)
      → slice_get (cond {A = List Entry} own (x ∷ entries_of n xs) (entries_of n xs)) k ≡ Some e → e.line ≡ n
  go others true own zero is = let same : x ≡ e = cc in ap (λ (y : Entry). y.line) (sym same) ∙ eqb-true x.line n own
  go others true own (suc k) is = others k is
  go others false own k is = others k is

help_line : (h : Noted) → (help_entry h).line ≡ 0
help_line noted.Whole = refl
help_line noted.Line = refl
help_line (noted.Help s p i d a n) = refl

-- so a help isn't one
pub no_help : (n : ℕ) (es : List Entry) (h : Noted) → 0 < n → Some (help_entry h) ≡ last_entry (entries_of n es) → ⊥
no_help n es h some is =
    let own : (help_entry h).line ≡ n = of_line n es (length (entries_of n es) - 1) (help_entry h) (sym is) in
    omega (arith, own, help_line h, some)
