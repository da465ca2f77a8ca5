-- The words of a line.
use Rattle.std.specs.Prelude.{◌==◌, Bool, true, false, List, [], ◌∷◌, ℕ, codes, if◌then◌else◌}
use Rattle.std.specs.List.{filter, slice_split}
use Rattle.std.specs.Str.{bytes_eq}

-- whether what stands between two spaces is a word: nothing does between two that stand side by side
abbrev pub has_bytes : List ℕ → Bool
has_bytes [] = false
has_bytes (b ∷ part) = true

-- the words of a line, parted by one or more spaces; spaces may stand before the first of them and behind the last
abbrev pub words_of : List ℕ → List (List ℕ)
words_of line = filter has_bytes (slice_split (λ b. b == 32) line)

-- the word of a number that may have a minus before it, as it counts: `-0` is 0
abbrev pub plain_number : List ℕ → List ℕ
plain_number word = if bytes_eq word (codes "-0") then codes "0" else word

-- words as they count: the number of an `add` line is that plain one
abbrev pub plain : List (List ℕ) → List (List ℕ)
plain (verb ∷ name ∷ rid ∷ number ∷ []) =
    verb ∷ name ∷ rid ∷ (if bytes_eq verb (codes "add") then plain_number number else number) ∷ []
plain words = words
