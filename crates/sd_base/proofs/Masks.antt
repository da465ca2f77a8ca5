-- The operations on a byte are those on the list of its members, byte by byte. It serves the goals of set.rt.
use Rattle.std.proofs.Common.{◌≡◌, ⊎_elim, ℕ, zero, suc, ◌<◌, ◌≤◌, ◌-◌, ◌^◌, not, nat_eq, Bool, true, false, eqb, ◌&&◌, List, [], ◌∷◌, refl, sym, ap, ◌∙◌, arith, eqb-true}
use Rattle.std.specs.Prelude.{bit_and, bit_or}
use Rattle.std.proofs.lemmas.Bool.{cases_eq}
use Rattle.sd_base.specs.Sets.{has, without, with_member, members}

abbrev same : List ℕ → List ℕ → Bool
same [] [] = true
same [] (y ∷ ys) = false
same (x ∷ xs) [] = false
same (x ∷ xs) (y ∷ ys) = eqb x y && same xs ys

abbrev pub each_below : ℕ → (ℕ → Bool) → Bool
each_below zero test = true
each_below (suc n) test = test n && each_below n test

pub and_true : (a b : Bool) → (a && b) ≡ true → (a ≡ true) × (b ≡ true)
and_true true b e = (refl, e)
and_true false b e = absurd (cc)

same_is : (xs ys : List ℕ) → same xs ys ≡ true → xs ≡ ys
same_is [] [] e = refl
same_is [] (y ∷ ys) e = absurd (cc)
same_is (x ∷ xs) [] e = absurd (cc)
same_is (x ∷ xs) (y ∷ ys) e = let both = and_true (eqb x y) (same xs ys) e in ap (λ (z : ℕ). z ∷ xs) (eqb-true x y both.0) ∙ ap (λ (l : List ℕ). y ∷ l) (same_is xs ys both.1)

pub of_each : (n : ℕ) (test : ℕ → Bool) → each_below n test ≡ true → (k : ℕ) → k < n → test k ≡ true
of_each zero test e k lt = absurd (omega arith)
of_each (suc n) test e k lt = let both = and_true (test n) (each_below n test) e in
    ⊎_elim (λ is. ap test is ∙ both.0) (λ ne. of_each n test both.1 k (omega arith)) (cases_eq k n)

-- what a test says of each byte and instance, it says of these
of_bytes : (test : ℕ → ℕ → Bool) → each_below 256 (λ b. each_below 8 (test b)) ≡ true → (b n : ℕ) → b < 256 → n < 8 → test b n ≡ true
of_bytes test e b n lb ln = of_each 8 (test b) (of_each 256 (λ b. each_below 8 (test b)) e b lb) n ln

abbrev same_bool : Bool → Bool → Bool
same_bool true b = b
same_bool false true = false
same_bool false false = true

same_bool_is : (a b : Bool) → same_bool a b ≡ true → a ≡ b
same_bool_is true b e = sym e
same_bool_is false true e = absurd (cc)
same_bool_is false false e = refl

has_ok : ℕ → ℕ → Bool
has_ok b n = same_bool (not (nat_eq (bit_and b (2 ^ (suc n - 1))) 0)) (has (suc n) (members b))

without_ok : ℕ → ℕ → Bool
without_ok b n = same (members (bit_and b (255 - 2 ^ (suc n - 1)))) (without (suc n) (members b))

with_ok : ℕ → ℕ → Bool
with_ok b n = same (members (bit_or b (2 ^ (suc n - 1)))) (with_member (suc n) (members b))

only_ok : ℕ → Bool
only_ok n = same (members (2 ^ (suc n - 1))) (suc n ∷ [])

all_has : each_below 256 (λ b. each_below 8 (has_ok b)) ≡ true
unfolding has_ok
all_has = refl

all_without : each_below 256 (λ b. each_below 8 (without_ok b)) ≡ true
unfolding without_ok
all_without = refl

all_with : each_below 256 (λ b. each_below 8 (with_ok b)) ≡ true
unfolding with_ok
all_with = refl

all_only : each_below 8 only_ok ≡ true
unfolding only_ok
all_only = refl

pub byte-has : (b i m : ℕ) → b < 256 → 1 ≤ i → i ≤ 8 → m ≡ 2 ^ (i - 1) → not (nat_eq (bit_and b m) 0) ≡ has i (members b)
unfolding has_ok
byte-has b zero m lb low high e = absurd (omega arith)
byte-has b (suc n) m lb low high e = ap (λ (x : ℕ). not (nat_eq (bit_and b x) 0)) e ∙ same_bool_is (not (nat_eq (bit_and b (2 ^ (suc n - 1))) 0)) (has (suc n) (members b)) (of_bytes has_ok all_has b n lb (omega arith))

pub byte-without : (b i m : ℕ) → b < 256 → 1 ≤ i → i ≤ 8 → m ≡ 2 ^ (i - 1) → members (bit_and b (255 - m)) ≡ without i (members b)
unfolding without_ok
byte-without b zero m lb low high e = absurd (omega arith)
byte-without b (suc n) m lb low high e = ap (λ (x : ℕ). members (bit_and b (255 - x))) e ∙ same_is (members (bit_and b (255 - 2 ^ (suc n - 1)))) (without (suc n) (members b)) (of_bytes without_ok all_without b n lb (omega arith))

pub byte-with : (b i m : ℕ) → b < 256 → 1 ≤ i → i ≤ 8 → m ≡ 2 ^ (i - 1) → members (bit_or b m) ≡ with_member i (members b)
unfolding with_ok
byte-with b zero m lb low high e = absurd (omega arith)
byte-with b (suc n) m lb low high e = ap (λ (x : ℕ). members (bit_or b x)) e ∙ same_is (members (bit_or b (2 ^ (suc n - 1)))) (with_member (suc n) (members b)) (of_bytes with_ok all_with b n lb (omega arith))

pub byte-only : (i m : ℕ) → 1 ≤ i → i ≤ 8 → m ≡ 2 ^ (i - 1) → members m ≡ i ∷ []
unfolding only_ok
byte-only zero m low high e = absurd (omega arith)
byte-only (suc n) m low high e = ap members e ∙ same_is (members (2 ^ (suc n - 1))) (suc n ∷ []) (of_each 8 only_ok all_only n (omega arith))
