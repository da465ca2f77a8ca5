-- A list parted at the first place where a test holds. It serves the goals of word.rt and parts.rt, and those of readers that part lines.
use Rattle.std.proofs.Common.{◌≡◌, Bool, true, false, cond, ℕ, ◌-◌, ◌<◌, ◌≤◌, List, [], ◌∷◌, length, take, drop, Some, None, refl, sym, ap, ◌∙◌, arith, ⊎_elim, length-drop, nat_lt}
use Rattle.std.proofs.lemmas.Bool.{cases_lt, cond-true, cond-false, lt-ltb, le-ltb}
use Rattle.std.proofs.lemmas.List.{take_all}
use Rattle.std.specs.Prelude.{position}
use Rattle.std.specs.List.{slice_split, onto_first, position_or_len}

some_part_if : (test : Bool) (b : ℕ) (all : List (List ℕ)) (first : List ℕ) (parts : List (List ℕ)) → all ≡ first ∷ parts → (x : List ℕ) × (xs : List (List ℕ)) × (cond {A = List (List ℕ)} test ([] ∷ all) (onto_first b all) ≡ x ∷ xs)
some_part_if true b all first parts e = ([], all, refl)
some_part_if false b all first parts e = (b ∷ first, parts, ap (onto_first b) e)

-- a text has a part, also where it is empty
pub some_part : (p : ℕ → Bool) (text : List ℕ) → (first : List ℕ) × (parts : List (List ℕ)) × (slice_split p text ≡ first ∷ parts)
some_part p [] = ([], [], refl)
some_part p (b ∷ text) = let rest = some_part p text in some_part_if (p b) b (slice_split p text) rest.0 rest.1 rest.2

pub found_at : (p : ℕ → Bool) (text : List ℕ) (i : ℕ) → position p text ≡ Some i → (position_or_len p text < length text) × (position_or_len p text ≡ i)
found_at p text i e =
    ⊎_elim
    (λ lt. let is : Some (position_or_len p text) ≡ Some i = sym (cond-true (nat_lt (position_or_len p text) (length text)) (Some (position_or_len p text)) None (lt-ltb (position_or_len p text) (length text) lt)) ∙ e in (lt, cc))
    (λ ge. let is : None ≡ Some i = sym (cond-false (nat_lt (position_or_len p text) (length text)) (Some (position_or_len p text)) None (le-ltb (position_or_len p text) (length text) ge)) ∙ e in absurd (cc))
    (cases_lt (position_or_len p text) (length text))

pub not_found : (p : ℕ → Bool) (text : List ℕ) → position p text ≡ None → length text ≤ position_or_len p text
not_found p text e =
    ⊎_elim
    (λ lt. let is : Some (position_or_len p text) ≡ None = sym (cond-true (nat_lt (position_or_len p text) (length text)) (Some (position_or_len p text)) None (lt-ltb (position_or_len p text) (length text) lt)) ∙ e in absurd (cc))
    (λ ge. ge)
    (cases_lt (position_or_len p text) (length text))

pub rest_of : (text : List ℕ) (i : ℕ) → take (length text - i) (drop i text) ≡ drop i text
rest_of text i = take_all (length text - i) (drop i text) (omega (arith, length-drop i text))
