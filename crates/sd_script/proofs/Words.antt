-- The next word of a line, and how long its words are. It serves the goals of word.rt and form.rt, and those on scripts.
use Rattle.std.proofs.Common.{◌≡◌, ◌==◌, Bool, true, ℕ, ◌+◌, ◌-◌, ◌<◌, ◌≤◌, List, [], ◌∷◌, length, take, drop, Some, None, refl, sym, ap, ◌∙◌, arith, length-append, length-take}
use Rattle.std.proofs.lemmas.List.Splits.{join_with_byte-slice_split, slice_split_first, slice_split_none}
use Rattle.std.proofs.lemmas.List.Sums.{fails_before_first}
use Rattle.std.proofs.lemmas.Bool.{cond-true}
use Rattle.std.specs.Prelude.{position}
use Rattle.std.specs.List.{filter, join_with_byte, slice_split}
use Rattle.sd_script.specs.Words.{has_bytes, words_of}
use Rattle.sd_script.proofs.Parting.{found_at, not_found, rest_of}

abbrev is_space : ℕ → Bool
is_space b = b == 32

some_is : (part : List ℕ) → 0 < length part → has_bytes part ≡ true
some_is [] some = absurd (omega (arith, some))
some_is (b ∷ part) some = refl

kept : (part : List ℕ) (parts : List (List ℕ)) → 0 < length part → filter has_bytes (part ∷ parts) ≡ part ∷ filter has_bytes parts
kept part parts some = cond-true (has_bytes part) (part ∷ filter has_bytes parts) (filter has_bytes parts) (some_is part some)

-- the parts of a line that is cut at its first space
cut : (line : List ℕ) (i : ℕ) → position is_space line ≡ Some i
    → slice_split is_space line ≡ take i line ∷ slice_split is_space (take (length line - (i + 1)) (drop (i + 1) line))
cut line i e =
    let at = found_at is_space line i e in
    slice_split_first is_space line 0 at.0
    ∙ ap (λ (n : ℕ). take n line ∷ slice_split is_space (drop (n + 1) line)) at.1
    ∙ ap (λ (l : List ℕ). take i line ∷ slice_split is_space l) (sym (rest_of line (i + 1)))

pub line_to_space : (line : List ℕ) (i : ℕ) → position is_space line ≡ Some i → 0 < i
    → words_of line ≡ take i line ∷ words_of (take (length line - (i + 1)) (drop (i + 1) line))
line_to_space line i e some =
    ap (filter has_bytes) (cut line i e)
    ∙ kept (take i line) (slice_split is_space (take (length line - (i + 1)) (drop (i + 1) line)))
    (let at = found_at is_space line i e in omega (arith, some, length-take i line, at.0, at.1))

nothing_behind : (line : List ℕ) → take (length line - length line) (drop (length line) line) ≡ []
nothing_behind line = ap (λ (n : ℕ). take n (drop (length line) line)) (let none : length line - length line ≡ 0 = omega arith in none)

pub line_without_space : (line : List ℕ) → position is_space line ≡ None → 0 < length line
    → words_of line ≡ line ∷ words_of (take (length line - length line) (drop (length line) line))
line_without_space line e some =
    let far = not_found is_space line e in
    ap (filter has_bytes) (slice_split_none is_space line (λ k d lt. fails_before_first is_space line k d (omega arith)))
    ∙ kept line [] some
    ∙ ap (λ (l : List ℕ). line ∷ words_of l) (sym (nothing_behind line))

-- a space lies within the line
pub space_within : (line : List ℕ) (i : ℕ) → position is_space line ≡ Some i → i < length line
space_within line i e = let at = found_at is_space line i e in omega (arith, at.0, at.1)

-- a word before others, of which some are left out
with_first : (word next : List ℕ) (others kept : List (List ℕ))
    → length (join_with_byte 32 kept) ≤ length (join_with_byte 32 (next ∷ others))
    → length (join_with_byte 32 (word ∷ kept)) ≤ length (join_with_byte 32 (word ∷ next ∷ others))
with_first word next others [] le = omega (arith, length-append word (32 ∷ join_with_byte 32 (next ∷ others)))
with_first word next others (first ∷ rest) le = omega (
  arith,
  le,
  length-append word (32 ∷ join_with_byte 32 (next ∷ others)),
  length-append word (32 ∷ join_with_byte 32 (first ∷ rest)),
)

less_empty : (parts : List (List ℕ)) → length (join_with_byte 32 (filter has_bytes parts)) ≤ length (join_with_byte 32 parts)
less_empty [] = omega arith
less_empty ([] ∷ []) = omega arith
less_empty ((b ∷ word) ∷ []) = omega arith
less_empty ([] ∷ next ∷ parts) = omega (arith, less_empty (next ∷ parts))
less_empty ((b ∷ word) ∷ next ∷ parts) = with_first (b ∷ word) next parts (filter has_bytes (next ∷ parts)) (less_empty (next ∷ parts))

-- the words of a line, parted by one space each, are no longer than the line
pub words_within : (line : List ℕ) → length (join_with_byte 32 (words_of line)) ≤ length line
words_within line =
    let whole : length (join_with_byte 32 (slice_split is_space line)) ≡ length line = ap length (join_with_byte-slice_split 32 line) in
    omega (arith, whole, less_empty (slice_split is_space line))
