-- Entries whose lines don't fall, parted at a line. It serves the goals of render and TxnNames::of, and whoever shows that the
-- entries of a book are in order.
use Rattle.std.proofs.Common.{◌≡◌, inl, inr, ⊎_elim, ℕ, ◌<◌, ◌≤◌, Bool, true, false, List, [], ◌∷◌, ◌++◌, cond, eqb, ltb, ◌+◌, length, take, drop, get_or, refl, sym, ap, subst, ◌∙◌, arith}
use Rattle.std.specs.Prelude.{◌⊎◌, max}
use Rattle.std.proofs.lemmas.Bool.{cases_Bool, eqb-true, ltb-true, ltb-false}
use Rattle.std.proofs.lemmas.List.{drop_more}
use Rattle.sd_model.specs.declared.event.Entry.{Entry}
use Rattle.sd_script.specs.declared.line.Line.{Line}
use Rattle.sd_script.specs.declared.line.Form.{Form}
use Rattle.sd_report.specs.Report.{gathered, AreAbove, entries_of, upto, behind, AreFrom}
use Rattle.sd_report.proofs.Growing.{flat_map_more}

-- of two numbers that differ the test is false
apart : (a b : ℕ) → (a ≡ b → ⊥) → eqb a b ≡ false
apart a b ne = ⊎_elim (λ (is : eqb a b ≡ true). absurd (ne (eqb-true a b is))) (λ no_. no_) (cases_Bool (eqb a b))

-- an entry of another line doesn't count
pub other_line : (n : ℕ) (e : Entry) (es : List Entry) → (e.line ≡ n → ⊥) → entries_of n (e ∷ es) ≡ entries_of n es
other_line n e es ne = ap (λ (b : Bool). cond {A = List Entry} b (e ∷ entries_of n es) (entries_of n es)) (apart e.line n ne)

own_line : (n : ℕ) (e : Entry) (es : List Entry) → eqb e.line n ≡ true → entries_of n (e ∷ es) ≡ e ∷ entries_of n es
own_line n e es is = ap (λ (b : Bool). cond {A = List Entry} b (e ∷ entries_of n es) (entries_of n es)) is

-- entries that are in order from a line on have none of an earlier one
none_of : (n low : ℕ) (es : List Entry) → AreFrom low es → 0 < n → n < low → entries_of n es ≡ []
none_of n low [] from some lt = refl
none_of n low (e ∷ es) from some lt =
    other_line n e es (λ is. ⊎_elim (λ zero_. omega (arith, is, zero_, some)) (λ le. omega (arith, is, le, lt)) from.0)
    ∙ none_of n (max low e.line) es from.1 some (omega (arith, lt))

-- the entries of a line stand before those of later lines
pub own_entries : (n low : ℕ) (es : List Entry) → AreFrom low es → 0 < n → entries_of n (upto n es) ≡ entries_of n es
own_entries n low [] from some = refl
own_entries n low (e ∷ es) from some = ⊎_elim
    (λ (is : ltb n e.line ≡ true).
    let later : n < e.line = ltb-true n e.line is in
    ap (λ (b : Bool). entries_of n (cond {A = List Entry} b [] (e ∷ upto n es))) is
    ∙ sym (none_of n (max low e.line) es from.1 some (omega (arith, later)))
    ∙ sym (other_line n e es (λ same. omega (arith, same, later))))
    (λ (is : ltb n e.line ≡ false).
    ap (λ (b : Bool). entries_of n (cond {A = List Entry} b [] (e ∷ upto n es))) is
    ∙ ap (λ (l : List Entry). cond {A = List Entry} (eqb e.line n) (e ∷ l) l) (own_entries n (max low e.line) es from.1 some))
    (cases_Bool (ltb n e.line))

-- behind a line stand all entries of later lines
pub later_entries : (n m : ℕ) (es : List Entry) → n < m → entries_of m (behind n es) ≡ entries_of m es
later_entries n m [] lt = refl
later_entries n m (e ∷ es) lt = ⊎_elim
    (λ (is : ltb n e.line ≡ true). ap (λ (b : Bool). entries_of m (cond {A = List Entry} b (e ∷ es) (behind n es))) is)
    (λ (is : ltb n e.line ≡ false).
    let early : e.line ≤ n = ltb-false n e.line is in
    ap (λ (b : Bool). entries_of m (cond {A = List Entry} b (e ∷ es) (behind n es))) is
    ∙ later_entries n m es lt ∙ sym (other_line m e es (λ same. omega (arith, same, early, lt))))
    (cases_Bool (ltb n e.line))

-- entries that are in order from a line on are so from an earlier one on
pub from_lower : (low high : ℕ) (es : List Entry) → AreFrom high es → low ≤ high → AreFrom low es
from_lower low high [] from le = tt
from_lower low high (e ∷ es) from le = (
  ⊎_elim (λ zero_. inl zero_) (λ above. inr (omega (arith, above, le))) from.0,
  from_lower (max low e.line) (max high e.line) es from.1 (omega (arith, le)),
)

-- what stands behind a line is in order
pub later_from : (n low : ℕ) (es : List Entry) → AreFrom low es → AreFrom 0 (behind n es)
later_from n low [] from = tt
later_from n low (e ∷ es) from = ⊎_elim
    (λ (is : ltb n e.line ≡ true). subst (λ (b : Bool). AreFrom 0 (cond {A = List Entry} b (e ∷ es) (behind n es))) (sym is)
    (from_lower 0 low (e ∷ es) from (omega arith)))
    (λ (is : ltb n e.line ≡ false).
    subst (λ (b : Bool). AreFrom 0 (cond {A = List Entry} b (e ∷ es) (behind n es))) (sym is)
    (later_from n (max low e.line) es from.1))
    (cases_Bool (ltb n e.line))

-- no entry is of a later line than this one
abbrev pub AreUpTo : ℕ → List Entry → Type 0
AreUpTo high [] = Unit {0}
AreUpTo high (e ∷ es) = (e.line ≤ high) × AreUpTo high es

-- entries in order, and one more
pub from_push : (low high : ℕ) (es : List Entry) (e : Entry) → AreFrom low es → AreUpTo high es → low ≤ high
    → (e.line ≡ 0) ⊎ (high ≤ e.line) → AreFrom low (es ++ e ∷ [])
from_push low high [] e from upto le new = (⊎_elim (λ zero_. inl zero_) (λ later. inr (omega (arith, le, later))) new, tt)
from_push low high (x ∷ xs) e from upto le new =
    (from.0, from_push (max low x.line) high xs e from.1 upto.1 (omega (arith, le, upto.0)) new)

pub upto_push : (high later : ℕ) (es : List Entry) (e : Entry) → AreUpTo high es → high ≤ later → e.line ≤ later
    → AreUpTo later (es ++ e ∷ [])
upto_push high later [] e upto le within = (within, tt)
upto_push high later (x ∷ xs) e upto le within = (omega (arith, upto.0, le), upto_push high later xs e upto.1 le within)

-- the first i lines have had their entries, and the last of them is low; what is left of the entries
pub record Parted (lines : List Line) (entries rest : List Entry) (i low : ℕ) : Type 0 where
  pub numbers : AreAbove low (drop i lines)
  pub order : AreFrom 0 rest
  pub same : (n : ℕ) → low < n → entries_of n rest ≡ entries_of n entries

pub parted_none : (lines : List Line) (entries : List Entry) → AreAbove 0 lines → AreFrom 0 entries
    → Parted lines entries entries 0 0
parted_none lines entries above from = record { numbers = above; order = from; same = λ n lt. refl }

-- one line more, with its own entries
module _ (lines : List Line) (entries rest : List Entry) (i low : ℕ) (line : Line) (so_far : Parted lines entries rest i low)
    (lt : i < length lines) (is : line ≡ get_or lines i line) where
  above : AreAbove low (line ∷ drop (i + 1) lines)
  above = subst (AreAbove low) (drop_more lines i line lt ∙ ap (λ (x : Line). x ∷ drop (i + 1) lines) (sym is)) so_far.numbers

  pub some_number : 0 < line.number
  some_number = omega (arith, above.0)

  pub parted_more : (others : List Entry) → others ≡ behind line.number rest → Parted lines entries others (i + 1) line.number
  parted_more others left = subst (λ (l : List Entry). Parted lines entries l (i + 1) line.number) (sym left) (record {
    numbers = above.1;
    order = later_from line.number 0 rest so_far.order;
    same = λ n lt_n. later_entries line.number n rest lt_n ∙ so_far.same n (omega (arith, above.0, lt_n));
  })

  pub gathered_more : {X : Type 0} (f : Form → List Entry → List X) (own : List Entry) → own ≡ upto line.number rest
      → gathered f (take (i + 1) lines) entries ≡ gathered f (take i lines) entries ++ f line.form (entries_of line.number own)
  gathered_more {X} f own mine =
      let all : entries_of line.number own ≡ entries_of line.number entries =
      ap (entries_of line.number) mine ∙ own_entries line.number 0 rest so_far.order (omega (arith, above.0))
      ∙ so_far.same line.number above.0 in
      flat_map_more (λ (x : Line). f x.form (entries_of x.number entries)) lines i line lt is
      ∙ ap (λ (l : List Entry). gathered f (take i lines) entries ++ f line.form l) (sym all)
