-- The first bad line of a text: which line it is, why, and its bytes.
use Rattle.std.specs.Prelude.{◌≡◌, ℕ, ◌-◌, List, [], ◌∷◌, Option, Some, get_or}
use Rattle.sd_script.specs.Reading.{IsBadAt}
use Rattle.sd_script.specs.Text.{lines_of}
use Rattle.sd_top.specs.declared.first_bad.BadLine.{BadLine}

-- the first of lines, or none
abbrev pub first_of : List (List ℕ) → List ℕ
first_of [] = []
first_of (line ∷ lines) = line

-- the bytes of the line of this number, the first of which is 1; none where the text has no such line
abbrev pub line_at : List ℕ → ℕ → List ℕ
line_at text number = get_or (lines_of text) (number - 1) []

-- This is the first bad line of the text, with the first cause that holds of it, and its bytes.
pub record IsFirstBad (text : List ℕ) (bad : BadLine) : Type 0 where
  pub at : IsBadAt text bad.line bad.cause
  pub bytes : bad.bytes.items ≡ line_at text bad.line
