-- No two names have the same number, and each fits. It serves the goals of packed.rt and names.rt.
use Rattle.std.proofs.Common.{◌≡◌, ◌≢◌, ℕ, suc, ◌+◌, ◌*◌, ◌^◌, ◌<◌, ◌≤◌, List, [], ◌∷◌, length, take, get_or, refl, sym, ap, ◌∙◌, subst, arith, lit<, inl, inr, ◌-◌, ⊎_elim, Bool, true, false, cond}
use Rattle.std.specs.Prelude.{All, ◌⊎◌, reverse, Option}
use Rattle.std.specs.Cmp.Lexicographic.{bytes_decides}
use Rattle.std.specs.Ordering.{is_eq, nat_cmp}
use Rattle.std.specs.Str.{bytes_eq}
use Rattle.std.proofs.lemmas.Bool.{cases_Bool, cases_lt, true≢false}
use Rattle.std.proofs.lemmas.Bool.Decides.{nat_tests}
use Rattle.std.proofs.Math.Nat.{pow-le-pow_right}
use Rattle.std.proofs.lemmas.List.{reverse-append, reverse-reverse, length-reverse, get_or-reverse, take_more}
use Rattle.sd_script.specs.Forms.{IsName, IsNameText, IsLetter, IsDigit}
use Rattle.sd_script.specs.Packed.{number_from_lowest, packed_of}

-- each is a byte, and not 0
abbrev AreDigits : List ℕ → Type 0
AreDigits digits = All (λ b. (0 < b) × (b < 256)) digits

same_digits : (xs ys : List ℕ) → AreDigits xs → AreDigits ys → number_from_lowest xs ≡ number_from_lowest ys → xs ≡ ys
same_digits [] [] a b e = refl
same_digits [] (y ∷ ys) a b e = let some = (b 0 0 (omega arith)).0 in absurd (omega arith)
same_digits (x ∷ xs) [] a b e = let some = (a 0 0 (omega arith)).0 in absurd (omega arith)
same_digits (x ∷ xs) (y ∷ ys) a b e =
    let first = (a 0 0 (omega arith)).1 in
    let second = (b 0 0 (omega arith)).1 in
    let here : x ≡ y = omega arith in
    let there : number_from_lowest xs ≡ number_from_lowest ys = omega arith in
    let rest = same_digits xs ys (λ k d lt. a (suc k) d (omega arith)) (λ k d lt. b (suc k) d (omega arith)) there in
    ap (λ (d : ℕ). d ∷ xs) here ∙ ap (λ (l : List ℕ). y ∷ l) rest

is_digit : (b : ℕ) → IsLetter b ⊎ IsDigit b → (0 < b) × (b < 256)
is_digit b (inl letter) = (omega (arith, letter.0), omega (arith, letter.1))
is_digit b (inr digit) = (omega (arith, digit.0), omega (arith, digit.1))

digits_back : (name : List ℕ) → IsName name → AreDigits (reverse name)
digits_back name is k d lt =
    let within : k < length name = omega (arith, lt, length-reverse name) in
    subst (λ (b : ℕ). (0 < b) × (b < 256)) (sym (get_or-reverse name k d within)) (is_digit _ (is.each (length name - 1 - k) d (omega arith)))

pub one_name : (name other : List ℕ) → IsName name → IsName other → packed_of other ≡ packed_of name → other ≡ name
one_name name other a b e =
    sym (reverse-reverse other) ∙ ap reverse (same_digits (reverse other) (reverse name) (digits_back other b) (digits_back name a) e) ∙ reverse-reverse name

pub packed_more : (name : List ℕ) (i : ℕ) → i < length name → packed_of (take (i + 1) name) ≡ packed_of (take i name) * 256 + get_or name i 0
packed_more name i lt =
    ap packed_of (take_more name i 0 lt) ∙ ap number_from_lowest (reverse-append (take i name) (get_or name i 0 ∷ [])) ∙ omega arith

-- one digit more fits
pub room_more : (n i : ℕ) → n < 256 ^ i → i < 16 → n < 256 ^ 15
room_more n i lt few = let short : i ≤ 15 = omega arith in
    let most : 256 ^ i ≤ 256 ^ 15 = pow-le-pow_right (lit< tt) short in omega arith

-- the order of numbers tells the same names
tells : (name other : List ℕ) → IsName name → IsName other → is_eq (nat_cmp (packed_of name) (packed_of other)) ≡ bytes_eq name other
tells name other a b = ⊎_elim
    (λ same. let e : name ≡ other = (bytes_decides name other).0 same in subst (λ (x : List ℕ). is_eq (nat_cmp (packed_of name) (packed_of x)) ≡ true) e (grind (arith, nat_tests)) ∙ sym same)
    (λ differ. let ne : packed_of name ≢ packed_of other = λ e. true≢false (sym ((bytes_decides name other).1 (sym (one_name name other a b (sym e)))) ∙ differ) in
    let apart : is_eq (nat_cmp (packed_of name) (packed_of other)) ≡ false = grind (arith, nat_tests) in
    apart ∙ sym differ)
    (cases_Bool (bytes_eq name other))

-- where one key gets an ordinal, the name has it, and the other names have those that they had
pub known_added : (old new : ℕ → Option ℕ) (key : ℕ) (name : List ℕ) (w : Option ℕ) → IsName name → key ≡ packed_of name
    → ((q : ℕ) → new q ≡ cond (is_eq (nat_cmp key q)) w (old q))
    → (other : List ℕ) → IsName other → new (packed_of other) ≡ cond (bytes_eq name other) w (old (packed_of other))
known_added old new key name w is at changed other is_other =
    changed (packed_of other)
    ∙ ap (λ (k : ℕ). cond (is_eq (nat_cmp k (packed_of other))) w (old (packed_of other))) at
    ∙ ap (λ (b : Bool). cond b w (old (packed_of other))) (tells name other is is_other)

-- a letter or a digit, told without a choice
between : (b : ℕ) → IsLetter b ⊎ IsDigit b → (48 ≤ b) × (b ≤ 122) × (57 < b → 97 ≤ b)
between b (inl letter) = (omega (arith, letter), letter.1, λ _. letter.0)
between b (inr digit) = (digit.0, omega (arith, digit), λ above. absurd (omega (arith, digit)))

chosen : (b : ℕ) → (48 ≤ b) × (b ≤ 122) × (57 < b → 97 ≤ b) → IsLetter b ⊎ IsDigit b
chosen b is = ⊎_elim (λ above. inl (is.2 above, is.1)) (λ le. inr (is.0, le)) (cases_lt 57 b)

pub text_of_name : (name : List ℕ) → IsName name → IsNameText name
text_of_name name is = (is.length, is.first, λ k d lt. between (get_or name k d) (is.each k d lt))

pub name_of_text : (name : List ℕ) → IsNameText name → IsName name
name_of_text name is = record { length = is.0; first = is.1; each = λ k d lt. chosen (get_or name k d) (is.2 k d lt) }
