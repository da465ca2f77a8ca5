-- The lines of a script are in order. It serves whoever reports what was read.
use Rattle.std.proofs.Common.{◌≡◌, true, false, ℕ, suc, ◌+◌, ◌≤◌, List, [], ◌∷◌, length, min, refl, sym, ap, ◌∙◌, subst, arith, ⊎_elim}
use Rattle.std.proofs.lemmas.Bool.{cases_Bool}
use Rattle.std.specs.Prelude.{Some, slice_get}
use Rattle.sd_script.specs.declared.line.Line.{Line}
use Rattle.sd_script.specs.Reading.{IsScript}
use Rattle.sd_script.specs.Text.{Numbered, is_passed_over, line_at, lines_of, numbered}
use Rattle.sd_script.proofs.Passing.{told, told_other, told_passed}
use Rattle.sd_script.proofs.Scripts.{read_at}
use Rattle.sd_report.specs.Report.{AreAbove}

above_less : (low high : ℕ) (lines : List Line) → low ≤ high → AreAbove high lines → AreAbove low lines
above_less low high [] le above = tt
above_less low high (line ∷ lines) le above = (omega (arith, le, above.0), above.1)

-- the lines have the numbers of these lines of a text, each as the one that stands at its place
abbrev AreNumbered : List Numbered → List Line → Type 0
AreNumbered those lines = (length lines ≡ length those)
    × ((k : ℕ) (at : Numbered) (line : Line) → slice_get those k ≡ Some at → slice_get lines k ≡ Some line
    → line.number ≡ at.number)

-- lines that begin with the first of these
first_above : (at : Numbered) (those : List Numbered) (lines : List Line) (low : ℕ) → at.number ≡ low + 1
    → AreNumbered (at ∷ those) lines
    → ((rest : List Line) → AreNumbered those rest → AreAbove (low + 1) rest) → AreAbove low lines
first_above at those [] low is same behind = tt
first_above at those (line ∷ lines) low is same behind =
    let number : line.number ≡ low + 1 = same.1 0 at line refl refl ∙ is in
    let count : length lines ≡ length those = omega (arith, same.0) in (
      omega (arith, number),
      subst (λ (n : ℕ). AreAbove n lines) (sym number) (behind lines (count, λ k other next e d. same.1 (suc k) other next e d)),
    )

next_above : (at : Numbered) (rest : List Numbered) (lines : List Line) (low : ℕ) → at.number ≡ low + 1
    → AreNumbered (told (at ∷ rest)) lines
    → ((others : List Line) → AreNumbered (told rest) others → AreAbove (low + 1) others) → AreAbove low lines
next_above at rest lines low is same behind = ⊎_elim
    (λ (yes : is_passed_over at ≡ true).
    above_less low (low + 1) lines (omega arith) (behind lines
    (subst (λ (those : List Numbered). AreNumbered those lines) (told_passed at rest yes) same)))
    (λ (no : is_passed_over at ≡ false).
    first_above at (told rest) lines low is
    (subst (λ (those : List Numbered). AreNumbered those lines) (told_other at rest no) same) behind)
    (cases_Bool (is_passed_over at))

-- the lines of a text that are to be read are numbered upwards
above : (whole before start : ℕ) (parts : List (List ℕ)) (lines : List Line)
    → AreNumbered (told (numbered whole before start parts)) lines → AreAbove before lines
above whole before start [] [] same = tt
above whole before start [] (line ∷ lines) same = absurd (omega (arith, same.0))
above whole before start (part ∷ parts) lines same =
    next_above (line_at part (before + 1) (min whole (start + (length part + 1))))
    (numbered whole (before + 1) (start + (length part + 1)) parts) lines before refl same
    (λ others numbers. above whole (before + 1) (start + (length part + 1)) parts others numbers)

pub script_above : (text : List ℕ) (lines : List Line) → IsScript text lines → AreAbove 0 lines
script_above text lines script = above (length text) 0 0 (lines_of text) lines (
  script.whole,
  λ k at line e d.
      let r = read_at text lines script k at e in
      let both : Some r.0 ≡ Some line = sym r.1 ∙ d in
      let same : r.0 ≡ line = cc in
      ap (λ (l : Line). l.number) (sym same) ∙ r.2.number_is,
)
