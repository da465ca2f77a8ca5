-- The lines of a text, and which of them are passed over.
use Rattle.std.specs.Prelude.{ℕ, ◌+◌, ◌==◌, ltb, min, Bool, false, not, ◌&&◌, ◌||◌, List, [], ◌∷◌, length, if◌then◌else◌}
use Rattle.std.specs.List.{filter, list_all, slice_split}
use Rattle.sd_script.specs.Words.{words_of}

-- the parts, less the last where it is empty
abbrev pub less_empty_last : List (List ℕ) → List (List ℕ)
less_empty_last [] = []
less_empty_last (part ∷ []) = if length part == 0 then [] else part ∷ []
less_empty_last (part ∷ next ∷ parts) = part ∷ less_empty_last (next ∷ parts)

-- the lines of a text, without their LFs; behind the last LF stands no line, unless bytes follow it
abbrev pub lines_of : List ℕ → List (List ℕ)
lines_of text = less_empty_last (slice_split (λ b. b == 10) text)

-- a line of a text: its bytes without the LF, its number, and how many bytes the text has up to its end, its LF among them
pub record Numbered : Type 0 where
  pub bytes : List ℕ
  pub number : ℕ
  pub end : ℕ

abbrev pub line_at : List ℕ → ℕ → ℕ → Numbered
line_at bytes number end = record { bytes = bytes; number = number; end = end }

-- these lines of a text of so many bytes, behind so many others, which take so many bytes
abbrev pub numbered : ℕ → ℕ → ℕ → List (List ℕ) → List Numbered
numbered whole before taken [] = []
numbered whole before taken (bytes ∷ lines) =
    line_at bytes (before + 1) (min whole (taken + (length bytes + 1)))
    ∷ numbered whole (before + 1) (taken + (length bytes + 1)) lines

-- whether a line is a comment: its first byte is `#`
abbrev pub is_comment : List ℕ → Bool
is_comment [] = false
is_comment (b ∷ bytes) = b == 35

-- whether a line is blank or a comment
abbrev pub is_idle : List ℕ → Bool
is_idle bytes = is_comment bytes || (length (words_of bytes) == 0)

-- whether each byte is printed, or a space
abbrev pub are_printed : List ℕ → Bool
are_printed bytes = list_all (λ b. ltb 31 b && ltb b 127) bytes

-- whether a line keeps the limits of bytes, of lines, and of the bytes of the text
abbrev pub is_within : Numbered → Bool
is_within at = ltb (length at.bytes) 1025 && (ltb at.number 100001 && ltb at.end 4194305)

-- whether a line is passed over. A blank line or a comment that breaks a limit, or has another byte, isn't: it is a bad line.
abbrev pub is_passed_over : Numbered → Bool
is_passed_over at = is_idle at.bytes && (are_printed at.bytes && is_within at)

-- the lines of a text that are to be read
abbrev pub told_lines : List ℕ → List Numbered
told_lines text = filter (λ at. not (is_passed_over at)) (numbered (length text) 0 0 (lines_of text))
