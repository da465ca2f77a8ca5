-- What holds of each line of a script, and where a script ends. It serves whoever does what was read.
use Rattle.std.proofs.Common.{◌≡◌, ◌==◌, ℕ, suc, ◌+◌, ◌≤◌, ◌<◌, Bool, true, false, List, [], ◌∷◌, length, take, min, Some, refl, sym, ap, ◌∙◌, subst, arith, ⊎_elim, length-append, length-take}
use Rattle.std.proofs.Math.Nat.{min-eq_left}
use Rattle.std.proofs.lemmas.Bool.{cases_Bool, eqb-true}
use Rattle.std.proofs.lemmas.Option.{slice_get_within}
use Rattle.std.proofs.lemmas.List.Splits.{join_with_byte-slice_split}
use Rattle.std.proofs.lemmas.List.Sums.{sum_by-cons}
use Rattle.std.specs.Prelude.{slice_get, sum_by, if◌then◌else◌}
use Rattle.std.specs.List.{join_with_byte, slice_split}
use Rattle.sd_base.proofs.Lists.{stands_at}
use Rattle.sd_script.specs.declared.line.Form.{Form}
use Rattle.sd_script.specs.declared.line.Line.{Line}
use Rattle.sd_script.specs.Text.{Numbered, is_passed_over, less_empty_last, line_at, lines_of, numbered, told_lines}
use Rattle.sd_script.specs.Words.{plain, words_of}
use Rattle.sd_script.specs.Forms.{IsForm, form_words}
use Rattle.sd_script.specs.Order.{Follows}
use Rattle.sd_script.specs.Reading.{Reads, ReadsAs, IsScript}
use Rattle.sd_script.proofs.Passing.{passed_decides, told, told_other, told_passed}
use Rattle.sd_script.proofs.Plain.{plain_within}
use Rattle.sd_script.proofs.Words.{words_within}

-- the line may stand behind those before it, and its words, parted by a space each, take no more than a line may
pub record StandsIn (lines : List Line) (k : ℕ) (line : Line) : Type 0 where
  pub follows : Follows (take k lines) line.form
  pub form : IsForm line.form
  pub short : length (join_with_byte 32 (form_words line.form)) ≤ 1024

short_words : (bytes : List ℕ) (f : Form) → plain (words_of bytes) ≡ form_words f → length bytes ≤ 1024
    → length (join_with_byte 32 (form_words f)) ≤ 1024
short_words bytes f words most =
    let same : length (join_with_byte 32 (form_words f)) ≡ length (join_with_byte 32 (plain (words_of bytes))) =
    ap (λ (l : List (List ℕ)). length (join_with_byte 32 l)) (sym words) in
    omega (arith, same, plain_within (words_of bytes), words_within bytes, most)

pub line_of_script : (text : List ℕ) (lines : List Line) → IsScript text lines → (k : ℕ) (line : Line) → slice_get lines k ≡ Some line
    → StandsIn lines k line
line_of_script text lines script k line is =
    let reads : Reads text (take k lines) line = script.read k line is in
    record {
      follows = reads.reads.follows;
      form = reads.reads.form;
      short = short_words reads.at.bytes line.form reads.reads.words reads.reads.bytes_most;
    }

-- the lines take no less than the text
abbrev taken : List ℕ → ℕ
taken line = length line + 1

last_part : (part : List ℕ) (b : Bool) → (b ≡ true → length part ≡ 0) → length part ≤ sum_by taken (if b then [] else part ∷ [])
last_part part true is = omega (arith, is refl)
last_part part false is =
    let all : sum_by taken (part ∷ []) ≡ length part + 1 + 0 = sum_by-cons taken part [] in
    omega (arith, all)

covered : (parts : List (List ℕ)) → length (join_with_byte 10 parts) ≤ sum_by taken (less_empty_last parts)
covered [] = omega arith
covered (part ∷ []) = last_part part (length part == 0) (λ e. eqb-true (length part) 0 e)
covered (part ∷ next ∷ parts) =
    let first : length (join_with_byte 10 (part ∷ next ∷ parts)) ≡ length part + suc (length (join_with_byte 10 (next ∷ parts))) = length-append part (10 ∷ join_with_byte 10 (next ∷ parts)) in
    let rest : sum_by taken (less_empty_last (part ∷ next ∷ parts)) ≡ length part + 1 + sum_by taken (less_empty_last (next ∷ parts)) = sum_by-cons taken part (less_empty_last (next ∷ parts)) in
    omega (arith, first, rest, covered (next ∷ parts))

whole_text : (text : List ℕ) → min (length text) (sum_by taken (lines_of text)) ≡ length text
whole_text text =
    let parts : List (List ℕ) = slice_split (λ b. b == 10) text in
    let joined : length (join_with_byte 10 parts) ≡ length text = ap length (join_with_byte-slice_split 10 text) in
    min-eq_left (omega (arith, joined, covered parts))

-- ---- each line of a text ends within the limit, where those that are read do

abbrev EndWithin : List Numbered → Type 0
EndWithin lines = (k : ℕ) (at : Numbered) → slice_get (told lines) k ≡ Some at → at.end ≤ 4194304

head_within : (first : Numbered) (lines : List Numbered) → EndWithin (first ∷ lines) → first.end ≤ 4194304
head_within first lines most = ⊎_elim
    (λ (yes : is_passed_over first ≡ true). ((passed_decides first).0 yes).1.1.2)
    (λ (no : is_passed_over first ≡ false). most 0 first (ap (λ (l : List Numbered). slice_get l 0) (told_other first lines no)))
    (cases_Bool (is_passed_over first))

tail_within : (first : Numbered) (lines : List Numbered) → EndWithin (first ∷ lines) → EndWithin lines
tail_within first lines most k at e = ⊎_elim
    (λ (yes : is_passed_over first ≡ true). most k at (ap (λ (l : List Numbered). slice_get l k) (told_passed first lines yes) ∙ e))
    (λ (no : is_passed_over first ≡ false). most (suc k) at (ap (λ (l : List Numbered). slice_get l (suc k)) (told_other first lines no) ∙ e))
    (cases_Bool (is_passed_over first))

all_within : (whole before start : ℕ) (lines : List (List ℕ)) → 0 < length lines → EndWithin (numbered whole before start lines)
    → min whole (start + sum_by taken lines) ≤ 4194304
all_within whole before start [] some most = absurd (omega (arith, some))
all_within whole before start (line ∷ []) some most =
    let end = head_within (line_at line (before + 1) (min whole (start + (length line + 1)))) [] most in
    omega (arith, end, sum_by-cons taken line [])
all_within whole before start (line ∷ next ∷ lines) some most =
    let end = all_within whole (before + 1) (start + (length line + 1)) (next ∷ lines) (omega arith)
    (tail_within (line_at line (before + 1) (min whole (start + (length line + 1)))) (numbered whole (before + 1) (start + (length line + 1)) (next ∷ lines)) most) in
    omega (arith, end, sum_by-cons taken line (next ∷ lines))

some_line : (whole before start : ℕ) (lines : List (List ℕ)) → 0 < length (told (numbered whole before start lines)) → 0 < length lines
some_line whole before start [] some = absurd (omega (arith, some))
some_line whole before start (line ∷ lines) some = omega arith

-- the line of a script at each place of those that are to be read
pub read_at : (text : List ℕ) (lines : List Line) → IsScript text lines → (k : ℕ) (at : Numbered) → slice_get (told_lines text) k ≡ Some at
    → (line : Line) × (slice_get lines k ≡ Some line) × ReadsAs (take k lines) at.bytes at.number at.end line
read_at text lines script k at e =
    let lt : k < length (told_lines text) = slice_get_within (told_lines text) k at e in
    let (line, stands) = stands_at lines k (omega (arith, lt, script.whole)) in
    let reads = script.read k line stands in
    let front : length (take k lines) ≡ k = omega (arith, length-take k lines, lt, script.whole) in
    let both : Some reads.at ≡ Some at = sym reads.stands ∙ ap (λ (n : ℕ). slice_get (told_lines text) n) front ∙ e in
    let same : reads.at ≡ at = cc in
    (line, stands, subst (λ (a : Numbered). ReadsAs (take k lines) a.bytes a.number a.end line) same reads.reads)

pub script_ends : (text : List ℕ) (lines : List Line) → IsScript text lines → length text ≤ 4194304
script_ends text lines script =
    let most : EndWithin (numbered (length text) 0 0 (lines_of text)) = λ k at e. (read_at text lines script k at e).2.text_most in
    let some : 0 < length (lines_of text) = some_line (length text) 0 0 (lines_of text) (omega (arith, script.whole, script.some)) in
    let end = all_within (length text) 0 0 (lines_of text) some most in
    omega (arith, end, whole_text text)
