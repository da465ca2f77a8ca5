-- The first line of a text. It serves the goals of text.rt.
use Rattle.std.proofs.Common.{◌≡◌, ◌==◌, Bool, false, ℕ, ◌+◌, ◌-◌, ◌<◌, List, [], ◌∷◌, length, take, drop, Some, None, sym, ap, ◌∙◌, arith}
use Rattle.std.proofs.lemmas.Bool.{cond-false, ne_eqb}
use Rattle.std.proofs.lemmas.List.Splits.{slice_split_first, slice_split_none}
use Rattle.std.proofs.lemmas.List.Sums.{fails_before_first}
use Rattle.std.specs.Prelude.{position}
use Rattle.std.specs.List.{slice_split, position_or_len}
use Rattle.sd_script.specs.Text.{less_empty_last, lines_of}
use Rattle.sd_script.proofs.Parting.{found_at, not_found, rest_of, some_part}

abbrev is_feed : ℕ → Bool
is_feed b = b == 10

with_line : (line text : List ℕ) (first : List ℕ) (parts : List (List ℕ)) → slice_split is_feed text ≡ first ∷ parts → less_empty_last (line ∷ slice_split is_feed text) ≡ line ∷ lines_of text
with_line line text first parts e =
    ap (λ (l : List (List ℕ)). less_empty_last (line ∷ l)) e ∙ ap (λ (l : List (List ℕ)). line ∷ less_empty_last l) (sym e)

pub line_to_feed : (text : List ℕ) (i : ℕ) → position is_feed text ≡ Some i → lines_of text ≡ take i text ∷ lines_of (take (length text - (i + 1)) (drop (i + 1) text))
line_to_feed text i e =
    let at = found_at is_feed text i e in
    let part = some_part is_feed (drop (position_or_len is_feed text + 1) text) in
    ap less_empty_last (slice_split_first is_feed text 0 at.0)
    ∙ with_line (take (position_or_len is_feed text) text) (drop (position_or_len is_feed text + 1) text) part.0 part.1 part.2
    ∙ ap (λ (n : ℕ). take n text ∷ lines_of (drop (n + 1) text)) at.1
    ∙ ap (λ (l : List ℕ). take i text ∷ lines_of l) (sym (rest_of text (i + 1)))

nonzero : (n : ℕ) → 0 < n → (n == 0) ≡ false
nonzero n lt = ne_eqb n 0 (λ e. omega arith)

nothing_left : (text : List ℕ) → take (length text - length text) (drop (length text) text) ≡ []
nothing_left text = ap (λ n. take n (drop (length text) text)) (let e : length text - length text ≡ 0 = omega arith in e)

pub line_to_end : (text : List ℕ) → 0 < length text → position is_feed text ≡ None → lines_of text ≡ text ∷ lines_of (take (length text - length text) (drop (length text) text))
line_to_end text some e =
    let far = not_found is_feed text e in
    ap less_empty_last (slice_split_none is_feed text (λ k d lt. fails_before_first is_feed text k d (omega arith)))
    ∙ cond-false (length text == 0) [] (text ∷ []) (nonzero (length text) some)
    ∙ ap (λ (l : List ℕ). text ∷ lines_of l) (sym (nothing_left text))
