-- A number and the digits that write it. It serves the goals of word.rt.
use Rattle.std.proofs.Common.{◌≡◌, ◌≢◌, ℕ, zero, suc, ◌<◌, ◌≤◌, ◌+◌, ◌*◌, ◌^◌, List, length, take, get_or, Option, Some, None, sym, ap, ◌∙◌, subst, arith, lit<}
use Rattle.std.proofs.Math.Nat.{pow-le-pow_right}
use Rattle.std.proofs.lemmas.Fmt.{decimal_is_IsNumeral, decimal_digit, decimal_nonempty, first_decimal, length-decimal-le, decimal-digits_value, decimal_injective}
use Rattle.std.proofs.lemmas.Int.Digits.{digits_value-lt, digits_value_more, digits_more}
use Rattle.std.proofs.lemmas.Str.{digit_value_digit}
use Rattle.std.proofs.lemmas.Str.Parse.{numerals_by_value, tells_digits}
use Rattle.std.specs.Char.{digit_value}
use Rattle.std.specs.Fmt.{decimal}
use Rattle.std.specs.Int.{IsInRange}
use Rattle.std.specs.Prelude.{IfSome, IfNone}
use Rattle.std.specs.Str.Parse.{AllDigits, digits_value}

-- so many digits write a number below this power of ten
pub digits_below : (digits : List ℕ) (k : ℕ) → AllDigits 10 digits → length digits ≤ k → digits_value 10 digits < 10 ^ k
digits_below digits k all le = let room : 10 ^ length digits ≤ 10 ^ k = pow-le-pow_right (lit< tt) le in omega (arith, digits_value-lt 10 digits all, room)

-- the digits that write a number
pub record Writes (n : ℕ) (word : List ℕ) : Type 0 where
  pub some : 0 < length word
  pub most : length word ≤ 10
  pub first : 1 < length word → get_or word 0 0 ≡ 48 → ⊥
  pub digits : AllDigits 10 word
  pub value : digits_value 10 word ≡ n

pub no_leading_zero : (n : ℕ) → n < 2 ^ 64 → 1 < length (decimal n) → get_or (decimal n) 0 0 ≡ 48 → ⊥
no_leading_zero zero lt long e = let one : length (decimal 0) ≡ 1 = ap length (decimal_digit 0 (lit< tt)) in absurd (omega arith)
no_leading_zero (suc n) lt long e = absurd (omega (arith, first_decimal (suc n) (omega arith) lt))

pub decimal_writes : (n : ℕ) (word : List ℕ) → n < 10 ^ 10 → decimal n ≡ word → Writes n word
decimal_writes n word lt e = let below : n < 2 ^ 64 = omega arith in
    let numeral = decimal_is_IsNumeral n below in
    subst (Writes n) e (record {
      some = decimal_nonempty n below;
      most = length-decimal-le 10 n (lit< tt) lt below;
      first = no_leading_zero n below;
      digits = numeral.0.1;
      value = numeral.1;
    })

pub numeral_is : (word : List ℕ) → AllDigits 10 word → 0 < length word → length word ≤ 10 → (1 < length word → get_or word 0 0 ≡ 48 → ⊥) → decimal (digits_value 10 word) ≡ word
numeral_is word all some most first =
    decimal-digits_value (numerals_by_value (AllDigits 10) tells_digits) word all some (λ e. omega (arith, λ (h : 1 < length word). first h e)) (omega (arith, digits_below word 10 all most))

pub found : (r : Option ℕ) (word : List ℕ) → 0 < length word → length word ≤ 10 → (1 < length word → get_or word 0 0 ≡ 48 → ⊥) → IfSome r (λ n. n ≡ digits_value 10 word) → IfSome r (λ n. AllDigits 10 word) → IfSome r (λ n. decimal n ≡ word)
found None word some most first value all = tt
found (Some n) word some most first value all = ap decimal value ∙ numeral_is word all some most first

pub short : (r : Option ℕ) (word : List ℕ) → length word ≤ 10 → IfSome r (λ n. n ≡ digits_value 10 word) → IfSome r (λ n. AllDigits 10 word) → IfSome r (λ n. n < 10 ^ 10)
short None word most value all = tt
short (Some n) word most value all = omega (arith, digits_below word 10 all most)

pub none : (r : Option ℕ) (word : List ℕ) → IfNone r (AllDigits 10 word → ⊥) → IfNone r ((n : ℕ) → n < 10 ^ 10 → decimal n ≢ word)
none None word refused = λ n lt e. let w : Writes n word = decimal_writes n word lt e in refused w.digits
none (Some m) word refused = tt

-- one more digit
pub next_digit : (digits : List ℕ) (i number d : ℕ) → i < length digits → AllDigits 10 (take i digits) → number ≡ digits_value 10 (take i digits) → IsInRange 48 57 (get_or digits i 0) → d + 48 ≡ get_or digits i 0 → (AllDigits 10 (take (i + 1) digits)) × (number * 10 + d ≡ digits_value 10 (take (i + 1) digits))
next_digit digits i number d lt all value range e =
    let is : digit_value (get_or digits i 0) ≡ d = omega (arith, digit_value_digit (get_or digits i 0) range) in
    (digits_more 10 digits i lt all (omega arith), ap (λ n. n * 10 + d) value ∙ ap (λ x. digits_value 10 (take i digits) * 10 + x) (sym is) ∙ sym (digits_value_more 10 digits i lt))

-- digits write one number
pub one_number : (m n : ℕ) (word : List ℕ) → m < 10 ^ 10 → n < 10 ^ 10 → decimal m ≡ word → decimal n ≡ word → m ≡ n
one_number m n word below_m below_n e f = decimal_injective m n (omega arith) (omega arith) (e ∙ sym f)
