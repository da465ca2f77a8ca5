-- The number of a text, computed and told. It serves the goal of number_in.
use Rattle.std.proofs.Common.{◌≡◌, ℕ, zero, suc, ◌+◌, ◌≤◌, Bool, true, false, ◌&&◌, not, List, [], ◌∷◌, length, pos, negsuc, ℤ, arith, refl, sym, ap, ◌∙◌, subst}
use Rattle.std.specs.Prelude.{Option, None, Some, MatchOption, nat_le, ◌==◌, if◌then◌else◌}
use Rattle.std.proofs.lemmas.Bool.{and_from, and_parts, eq-eqb, eqb-true, ne_eqb, le-leb, leb-true}
use Rattle.sd_model.specs.Numbers.{AreDigits, IsNumber, IsNumberOf, IsNumeral, digits_from}
use Rattle.sd_report.specs.Summary.{are_digits, below_zero, is_numeral, is_short_numeral, number_of}

-- ---- digits

digits_pass : (ds : List ℕ) → AreDigits ds → are_digits ds ≡ true
digits_pass [] are = refl
digits_pass (d ∷ ds) are =
    and_from (nat_le 48 d && nat_le d 57) (are_digits ds)
    (and_from (nat_le 48 d) (nat_le d 57) (le-leb 48 d are.0) (le-leb d 57 are.1))
    (digits_pass ds are.2)

passed_digits : (ds : List ℕ) → are_digits ds ≡ true → AreDigits ds
passed_digits [] pass = tt
passed_digits (d ∷ ds) pass =
    let parts = and_parts (nat_le 48 d && nat_le d 57) (are_digits ds) pass in
    let ends = and_parts (nat_le 48 d) (nat_le d 57) parts.0 in
    (leb-true 48 d ends.0, leb-true d 57 ends.1, passed_digits ds parts.1)

not_false : (b : Bool) → b ≡ false → not b ≡ true
not_false true is = absurd (cc)
not_false false is = refl

not_true : (b : Bool) → not b ≡ true → b ≡ false
not_true true is = absurd (cc)
not_true false is = refl

unequal : (a b : ℕ) → (a == b) ≡ false → a ≡ b → ⊥
unequal a b differ is = let yes : (a == b) ≡ true = eq-eqb a b is in cc

numeral_passes : (ds : List ℕ) → IsNumeral ds → is_numeral ds ≡ true
numeral_passes [] is = absurd is
numeral_passes (d ∷ []) is = digits_pass (d ∷ []) is
numeral_passes (d ∷ e ∷ ds) is =
    and_from (are_digits (d ∷ e ∷ ds)) (not (d == 48)) (digits_pass (d ∷ e ∷ ds) is.0)
    (not_false (d == 48) (ne_eqb d 48 is.1))

passed_numeral : (ds : List ℕ) → is_numeral ds ≡ true → IsNumeral ds
passed_numeral [] pass = absurd (cc)
passed_numeral (d ∷ []) pass = passed_digits (d ∷ []) pass
passed_numeral (d ∷ e ∷ ds) pass =
    let parts = and_parts (are_digits (d ∷ e ∷ ds)) (not (d == 48)) pass in
    (passed_digits (d ∷ e ∷ ds) parts.0, unequal d 48 (not_true (d == 48) parts.1))

short_passes : (ds : List ℕ) → IsNumeral ds → length ds ≤ 18 → is_short_numeral ds ≡ true
short_passes ds is few = and_from (is_numeral ds) (nat_le (length ds) 18) (numeral_passes ds is) (le-leb (length ds) 18 few)

passed_short : (ds : List ℕ) → is_short_numeral ds ≡ true → IsNumeral ds × (length ds ≤ 18)
passed_short ds pass =
    let parts = and_parts (is_numeral ds) (nat_le (length ds) 18) pass in
    (passed_numeral ds parts.0, leb-true (length ds) 18 parts.1)

-- a numeral begins with a digit, so with no minus
no_minus : (d : ℕ) (ds : List ℕ) → IsNumeral (d ∷ ds) → (d == 45) ≡ false
no_minus d [] is = ne_eqb d 45 (λ e. omega (arith, e, is.0))
no_minus d (e ∷ ds) is = let least = is.0.0 in ne_eqb d 45 (λ same. omega (arith, same, least))

-- ---- numbers

-- what is left of a choice whose test passes, or doesn't
chosen : {X : Type 0} (b : Bool) (x y : X) → b ≡ true → (if b then x else y) ≡ x
chosen true x y is = refl
chosen false x y is = absurd (cc)

other : {X : Type 0} (b : Bool) (x y : X) → b ≡ false → (if b then x else y) ≡ y
other true x y is = absurd (cc)
other false x y is = refl

plain_is : (ds : List ℕ) (n : ℕ) → IsNumeral ds → digits_from 0 ds ≡ n → length ds ≤ 18 → number_of ds ≡ Some (pos n)
plain_is [] n is spelt few = absurd is
plain_is (d ∷ ds) n is spelt few =
    other (d == 45) _ _ (no_minus d ds is) ∙ chosen (is_short_numeral (d ∷ ds)) _ _ (short_passes (d ∷ ds) is few)
    ∙ ap (λ (k : ℕ). Some (pos k)) spelt

below_is : (ds : List ℕ) (n : ℕ) → IsNumeral ds → digits_from 0 ds ≡ n + 1 → length ds ≤ 18
    → number_of (45 ∷ ds) ≡ Some (negsuc n)
below_is ds n is spelt few =
    chosen (is_short_numeral ds) _ _ (short_passes ds is few)
    ∙ ap below_zero (let next : digits_from 0 ds ≡ suc n = omega (arith, spelt) in next)

of_number : (text : List ℕ) (z : ℤ) → IsNumberOf text z → number_of text ≡ Some z
of_number text (pos n) (ds, is, few) = ap number_of is.0 ∙ plain_is ds n is.1.0 is.1.1 few
of_number text (negsuc n) (ds, is, few) = ap number_of is.0 ∙ below_is ds n is.1.0 is.1.1 few

-- a number that was computed is that of the text
below_of : (ds : List ℕ) (n : ℕ) (z : ℤ) → digits_from 0 ds ≡ n → IsNumeral ds → length ds ≤ 18 → below_zero n ≡ Some z
    → IsNumberOf (45 ∷ ds) z
below_of ds zero z spelt is few some = absurd (cc)
below_of ds (suc n) z spelt is few some =
    let same : negsuc n ≡ z = cc in
    subst (IsNumberOf (45 ∷ ds)) same (ds, (refl, (is, omega (arith, spelt))), few)

number_is_of : (b : ℕ) (bs : List ℕ) (z : ℤ) (minus short all : Bool) → (b == 45) ≡ minus → is_short_numeral bs ≡ short
    → is_short_numeral (b ∷ bs) ≡ all
    → (if minus then (if short then below_zero (digits_from 0 bs) else None)
    else (if all then Some (pos (digits_from 0 (b ∷ bs))) else None)) ≡ Some z
    → IsNumberOf (b ∷ bs) z
number_is_of b bs z true true all first rest whole is =
    let numeral = passed_short bs rest in
    subst (λ (d : ℕ). IsNumberOf (d ∷ bs) z) (sym (eqb-true b 45 first))
    (below_of bs (digits_from 0 bs) z refl numeral.0 numeral.1 is)
number_is_of b bs z true false all first rest whole is = absurd (cc)
number_is_of b bs z false short true first rest whole is =
    let numeral = passed_short (b ∷ bs) whole in
    let same : pos (digits_from 0 (b ∷ bs)) ≡ z = cc in
    subst (IsNumberOf (b ∷ bs)) same (b ∷ bs, (refl, (numeral.0, refl)), numeral.1)
number_is_of b bs z false short false first rest whole is = absurd (cc)

number_told : (text : List ℕ) (z : ℤ) → number_of text ≡ Some z → IsNumberOf text z
number_told [] z is = absurd (cc)
number_told (b ∷ bs) z is =
    number_is_of b bs z (b == 45) (is_short_numeral bs) (is_short_numeral (b ∷ bs)) refl refl refl is

no_number : (text : List ℕ) → (IsNumber text → ⊥) → (o : Option ℤ) → number_of text ≡ o → None ≡ o
no_number text never None is = refl
no_number text never (Some z) is = absurd (never (z, number_told text z is))

pub number_is : (text : List ℕ) (told : Option ℤ) → MatchOption told (IsNumber text → ⊥) (IsNumberOf text) → told ≡ number_of text
number_is text None none = no_number text none (number_of text) refl
number_is text (Some z) is = sym (of_number text z is)
