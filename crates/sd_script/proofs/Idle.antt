-- For which causes a blank line or a comment may be bad. It serves the law on them.
use Rattle.std.proofs.Common.{◌≡◌, true, false, ℕ, zero, suc, ◌+◌, ◌-◌, inl, inr, ◌⊎◌, List, [], ◌∷◌, length, min, Option, Some, None, refl, sym, ap, ◌∙◌, arith, ⊎_elim}
use Rattle.std.proofs.lemmas.Bool.{cases_Bool, true≢false}
use Rattle.std.proofs.lemmas.Option.{slice_get_within}
use Rattle.std.specs.Prelude.{slice_get}
use Rattle.sd_base.specs.declared.refusal.LineError.{LineError}
use Rattle.sd_base.specs.declared.refusal.LineError.TheVariants as cause
use Rattle.sd_script.specs.declared.line.Line.{Line}
use Rattle.sd_script.specs.Causes.{IsCause}
use Rattle.sd_script.specs.Reading.{IsBadAt, IsBadNext}
use Rattle.sd_script.specs.Text.{Numbered, is_idle, is_passed_over, line_at, lines_of, numbered, told_lines}
use Rattle.sd_script.proofs.Passing.{passed_decides, told, told_other, told_passed}

-- a line that is to be read isn't passed over, and stands in the text at its number
abbrev pub StandsAt : List (List ℕ) → ℕ → Numbered → Type 0
StandsAt parts before at =
    (is_passed_over at ≡ false) × (j : ℕ) × (at.number ≡ before + 1 + j) × (slice_get parts j ≡ Some at.bytes)

further : (part : List ℕ) (parts : List (List ℕ)) (before : ℕ) (at : Numbered) → StandsAt parts (before + 1) at
    → StandsAt (part ∷ parts) before at
further part parts before at s =
    let number = s.2 in
    (s.0, suc s.1, omega (arith, number), s.3)

here : (part : List ℕ) (parts : List (List ℕ)) (before end : ℕ) (at : Numbered) → is_passed_over (line_at part (before + 1) end) ≡ false
    → line_at part (before + 1) end ≡ at → StandsAt (part ∷ parts) before at
here part parts before end at isnt same = (
  sym (ap is_passed_over same) ∙ isnt,
  0,
  sym (ap (λ (a : Numbered). a.number) same) ∙ omega arith,
  ap (λ (a : Numbered). Some a.bytes) same,
)

at_place : (part : List ℕ) (parts : List (List ℕ)) (before end : ℕ) (rest : List Numbered) (at : Numbered)
    → ((k : ℕ) → slice_get (told rest) k ≡ Some at → StandsAt parts (before + 1) at) → is_passed_over (line_at part (before + 1) end) ≡ false
    → (k : ℕ) → slice_get (line_at part (before + 1) end ∷ told rest) k ≡ Some at → StandsAt (part ∷ parts) before at
at_place part parts before end rest at behind isnt zero e = here part parts before end at isnt (cc)
at_place part parts before end rest at behind isnt (suc k) e = further part parts before at (behind k e)

next_stands : (part : List ℕ) (parts : List (List ℕ)) (before end : ℕ) (rest : List Numbered) (at : Numbered)
    → ((k : ℕ) → slice_get (told rest) k ≡ Some at → StandsAt parts (before + 1) at)
    → (k : ℕ) → slice_get (told (line_at part (before + 1) end ∷ rest)) k ≡ Some at → StandsAt (part ∷ parts) before at
next_stands part parts before end rest at behind k e =
    let first : Numbered = line_at part (before + 1) end in
    ⊎_elim
    (λ (yes : is_passed_over (line_at part (before + 1) end) ≡ true).
    further part parts before at (behind k (ap (λ (l : List Numbered). slice_get l k) (sym (told_passed first rest yes)) ∙ e)))
    (λ (no : is_passed_over (line_at part (before + 1) end) ≡ false).
    at_place part parts before end rest at behind no k (ap (λ (l : List Numbered). slice_get l k) (sym (told_other first rest no)) ∙ e))
    (cases_Bool (is_passed_over first))

stands_at : (whole before start : ℕ) (parts : List (List ℕ)) (k : ℕ) (at : Numbered)
    → slice_get (told (numbered whole before start parts)) k ≡ Some at → StandsAt parts before at
stands_at whole before start [] k at e = absurd (cc)
stands_at whole before start (part ∷ parts) k at e =
    next_stands part parts before (min whole (start + (length part + 1))) (numbered whole (before + 1) (start + (length part + 1)) parts) at
    (λ j. stands_at whole (before + 1) (start + (length part + 1)) parts j at) k e

limits : (before : List Line) (at : Numbered) (c : LineError) → is_idle at.bytes ≡ true → is_passed_over at ≡ false
    → IsCause before at.bytes at.number at.end c → (c ≡ cause.Size) ⊎ (c ≡ cause.Byte)
limits before at cause.Size idle other is = inl refl
limits before at cause.Byte idle other is = inr refl
limits before at c idle other is = absurd (is.first cause.Size (omega arith) (λ allowed. is.first cause.Byte (omega arith) (λ printed.
    true≢false (sym ((passed_decides at).1 (idle, (printed, (allowed.bytes_most, allowed.lines_most, allowed.text_most)))) ∙ other))))

next_limits : (text : List ℕ) (before : List Line) (next : Option Numbered) (n : ℕ) (c : LineError) (bytes : List ℕ)
    → slice_get (told_lines text) (length before) ≡ next → IsBadNext text before next n c
    → slice_get (lines_of text) (n - 1) ≡ Some bytes → is_idle bytes ≡ true → (c ≡ cause.Size) ⊎ (c ≡ cause.Byte)
next_limits text before None n c bytes stands bad line idle =
    let number = bad.1 in
    absurd (omega (arith, number, slice_get_within (lines_of text) (n - 1) bytes line))
next_limits text before (Some at) n c bytes stands bad line idle =
    let is = stands_at (length text) 0 0 (lines_of text) (length before) at stands in
    let number = is.2 in
    let place : n - 1 ≡ is.1 = omega (arith, bad.0, number) in
    let both : Some bytes ≡ Some at.bytes = sym line ∙ ap (λ (k : ℕ). slice_get (lines_of text) k) place ∙ is.3 in
    let same : bytes ≡ at.bytes = cc in
    limits before at c (sym (ap is_idle same) ∙ idle) is.0 bad.1

pub limits_of_idle : (text : List ℕ) (n : ℕ) (c : LineError) (bytes : List ℕ) → IsBadAt text n c
    → slice_get (lines_of text) (n - 1) ≡ Some bytes → is_idle bytes ≡ true → (c ≡ cause.Size) ⊎ (c ≡ cause.Byte)
limits_of_idle text n c bytes bad line idle =
    next_limits text bad.before (slice_get (told_lines text) (length bad.before)) n c bytes refl bad.next line idle
