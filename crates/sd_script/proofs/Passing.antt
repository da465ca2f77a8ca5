-- Which lines of a text are passed over, and what is told of the others. It serves the goals of text.rt, reader.rt and script.rt.
use Rattle.std.proofs.Common.{◌≡◌, true, false, not, ◌&&◌, ℕ, ◌<◌, ◌≤◌, List, ◌∷◌, length, refl, ap, arith, ⊎_elim}
use Rattle.std.proofs.lemmas.Bool.{cases_Bool, cond-true, cond-false}
use Rattle.std.proofs.lemmas.Bool.Decides.{Decides-and, Decides-by_and, Decides-like, Decides-ltb}
use Rattle.std.specs.Prelude.{ltb, Decides}
use Rattle.std.specs.List.{filter}
use Rattle.sd_script.specs.Causes.{ArePrinted}
use Rattle.sd_script.specs.Text.{Numbered, are_printed, is_idle, is_passed_over, is_within}

-- ---- the test for lines that are passed over

abbrev IsPrintedByte : ℕ → Type 0
IsPrintedByte b = (32 ≤ b) × (b ≤ 126)

byte_decides : (b : ℕ) → Decides (ltb 31 b && ltb b 127) (IsPrintedByte b)
byte_decides b = Decides-like (ltb 31 b && ltb b 127)
    (λ (h : (31 < b) × (b < 127)). (omega (arith, h.0), omega (arith, h.1)))
    (λ (h : IsPrintedByte b). (omega (arith, h.0), omega (arith, h.1)))
    (Decides-and (ltb 31 b) (ltb b 127) (Decides-ltb 31 b) (Decides-ltb b 127))

printed_decides : (bytes : List ℕ) → Decides (are_printed bytes) (ArePrinted bytes)
printed_decides bytes = Decides-by_and (λ (b : ℕ). ltb 31 b && ltb b 127) IsPrintedByte are_printed byte_decides refl (λ _ _. refl) bytes

-- the limits that a line has
abbrev pub IsWithin : Numbered → Type 0
IsWithin at = (length at.bytes ≤ 1024) × (at.number ≤ 100000) × (at.end ≤ 4194304)

within_decides : (at : Numbered) → Decides (is_within at) (IsWithin at)
within_decides at = Decides-like (is_within at)
    (λ (h : (length at.bytes < 1025) × ((at.number < 100001) × (at.end < 4194305))).
    (omega (arith, h.0), omega (arith, h.1.0), omega (arith, h.1.1)))
    (λ (h : IsWithin at). (omega (arith, h.0), (omega (arith, h.1), omega (arith, h.2))))
    (Decides-and (ltb (length at.bytes) 1025) (ltb at.number 100001 && ltb at.end 4194305) (Decides-ltb (length at.bytes) 1025)
    (Decides-and (ltb at.number 100001) (ltb at.end 4194305) (Decides-ltb at.number 100001) (Decides-ltb at.end 4194305)))

-- the line is blank or a comment, printed, and within the limits
abbrev pub IsPassed : Numbered → Type 0
IsPassed at = (is_idle at.bytes ≡ true) × (ArePrinted at.bytes × IsWithin at)

pub passed_decides : (at : Numbered) → Decides (is_passed_over at) (IsPassed at)
passed_decides at = Decides-and (is_idle at.bytes) (are_printed at.bytes && is_within at) (λ e. e, λ e. e)
    (Decides-and (are_printed at.bytes) (is_within at) (printed_decides at.bytes) (within_decides at))

pub not_passed : (at : Numbered) → ¬ IsPassed at → is_passed_over at ≡ false
not_passed at other = ⊎_elim (λ yes. absurd (other ((passed_decides at).0 yes))) (λ no. no) (cases_Bool (is_passed_over at))

-- ---- a line that is passed over, and one that is told, before others

abbrev pub told : List Numbered → List Numbered
told lines = filter (λ at. not (is_passed_over at)) lines

pub told_passed : (at : Numbered) (lines : List Numbered) → is_passed_over at ≡ true → told (at ∷ lines) ≡ told lines
told_passed at lines is = cond-false (not (is_passed_over at)) (at ∷ told lines) (told lines) (ap not is)

pub told_other : (at : Numbered) (lines : List Numbered) → is_passed_over at ≡ false → told (at ∷ lines) ≡ at ∷ told lines
told_other at lines isnt = cond-true (not (is_passed_over at)) (at ∷ told lines) (told lines) (ap not isnt)
