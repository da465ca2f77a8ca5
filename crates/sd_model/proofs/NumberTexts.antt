-- What digits spell: bounds by their number, and one spelling of each number. It serves the goals of numbers.rt.
use Rattle.std.proofs.Common.{◌≡◌, ◌≢◌, ◌⊎◌, ⊎_elim, ℕ, zero, suc, ◌+◌, ◌*◌, ◌-◌, ◌^◌, ◌<◌, ◌≤◌, List, [], ◌∷◌, ◌++◌, length, refl, sym, ap, ◌∙◌, subst, arith, ◌/◌, ◌%◌, length-append, add-one, take, drop, get_or, false, true≢false, eqb, Option, None, Some, MatchOption, ℤ, pos, negsuc, ◌+ℤ◌, ◌-ℤ◌}
use lib.IntN.{nat_abs}
use lib.Signed.{mag}
use mir.Syntax.{w64}
use mir.Val.{to_z, of_z}
use Rattle.std.proofs.lemmas.Int.{ints, to_z-of_z}
use Rattle.std.proofs.lemmas.List.{take_all}
use Rattle.std.proofs.Math.Nat.{pow-succ', pow-le-pow_right, one-le-pow, mul-le-mul_left, mul-le-mul_right}
use Rattle.std.proofs.lemmas.Fmt.{decimal_digit, decimal_step, decimal_by_steps}
use Rattle.std.specs.Fmt.{decimal, signed_decimal}
use Rattle.sd_model.specs.Numbers.{digits_from, AreDigits, IsNumeral, Spells, IsText, IsNumberOf, IsNumber, Sums, HasLongSum}

pub upper : (n : ℕ) (ds : List ℕ) → AreDigits ds → digits_from n ds < (n + 1) * 10 ^ length ds
upper n [] h = omega arith
upper n (d ∷ ds) h =
    let ih : digits_from (10 * n + (d - 48)) ds < (10 * n + (d - 48) + 1) * 10 ^ length ds = upper (10 * n + (d - 48)) ds h.2 in
    let small : d ≤ 57 = h.1 in
    let step : 10 * n + (d - 48) + 1 ≤ (n + 1) * 10 = omega arith in
    let more : (10 * n + (d - 48) + 1) * 10 ^ length ds ≤ (n + 1) * 10 * 10 ^ length ds = mul-le-mul_right (10 ^ length ds) step in
    let power : 10 ^ suc (length ds) ≡ 10 * 10 ^ length ds = pow-succ' 10 (length ds) in
    rw power (grind (arith, ih, more))

pub lower : (n : ℕ) (ds : List ℕ) → AreDigits ds → n * 10 ^ length ds ≤ digits_from n ds
lower n [] h = omega arith
lower n (d ∷ ds) h =
    let ih : (10 * n + (d - 48)) * 10 ^ length ds ≤ digits_from (10 * n + (d - 48)) ds = lower (10 * n + (d - 48)) ds h.2 in
    let step : n * 10 ≤ 10 * n + (d - 48) = omega arith in
    let more : n * 10 * 10 ^ length ds ≤ (10 * n + (d - 48)) * 10 ^ length ds = mul-le-mul_right (10 ^ length ds) step in
    let power : 10 ^ suc (length ds) ≡ 10 * 10 ^ length ds = pow-succ' 10 (length ds) in
    rw power (grind (arith, ih, more))

-- digits of one number that spell the same are the same
pub same-digits : (a b : ℕ) (ds es : List ℕ) → AreDigits ds → AreDigits es → length ds ≡ length es → digits_from a ds ≡ digits_from b es → (a ≡ b) × (ds ≡ es)
same-digits a b [] [] h k l e = (e, refl)
same-digits a b [] (y ∷ es) h k l e = absurd (omega arith)
same-digits a b (x ∷ ds) [] h k l e = absurd (omega arith)
same-digits a b (x ∷ ds) (y ∷ es) h k l e =
    let rest = same-digits (10 * a + (x - 48)) (10 * b + (y - 48)) ds es h.2 k.2 (omega arith) e in
    let value : 10 * a + (x - 48) ≡ 10 * b + (y - 48) = rest.0 in
    let lx : 48 ≤ x = h.0 in let ux : x ≤ 57 = h.1 in let ly : 48 ≤ y = k.0 in let uy : y ≤ 57 = k.1 in
    let first : x ≡ y = omega arith in
    let tail : ds ≡ es = rest.1 in
    (omega arith, cc)

pub numeral-digits : (ds : List ℕ) → IsNumeral ds → AreDigits ds
numeral-digits [] h = absurd h
numeral-digits (d ∷ []) h = h
numeral-digits (d ∷ e ∷ ds) h = h.0

-- a numeral of several digits is at least the power of its number of digits less one
long : (ds : List ℕ) → IsNumeral ds → 2 ≤ length ds → 10 ^ (length ds - 1) ≤ digits_from 0 ds
long [] h l = absurd h
long (d ∷ []) h l = absurd (omega arith)
long (d ∷ e ∷ ds) h l =
    let low : 48 ≤ d = h.0.0 in
    let first : d ≢ 48 = h.1 in
    let step : 1 ≤ 10 * 0 + (d - 48) = omega arith in
    let more : 1 * 10 ^ length (e ∷ ds) ≤ (10 * 0 + (d - 48)) * 10 ^ length (e ∷ ds) = mul-le-mul_right (10 ^ length (e ∷ ds)) step in
    let rest : (10 * 0 + (d - 48)) * 10 ^ length (e ∷ ds) ≤ digits_from (10 * 0 + (d - 48)) (e ∷ ds) = lower (10 * 0 + (d - 48)) (e ∷ ds) h.0.2 in
    let less : length (d ∷ e ∷ ds) - 1 ≡ length (e ∷ ds) = omega arith in
    subst (λ (k : ℕ). 10 ^ k ≤ digits_from 0 (d ∷ e ∷ ds)) (sym less) (omega (arith, more, rest))

short-below : (n : ℕ) (ds : List ℕ) → Spells ds n → (k : ℕ) → length ds ≤ k → n < 10 ^ k
short-below n ds s k l =
    let top : digits_from 0 ds < (0 + 1) * 10 ^ length ds = upper 0 ds (numeral-digits ds s.0) in
    let is : digits_from 0 ds ≡ n = s.1 in
    let ten : zero < 10 = omega arith in
    let power : 10 ^ length ds ≤ 10 ^ k = pow-le-pow_right ten l in
    omega (arith, top, power)

long-above : (n : ℕ) (ds : List ℕ) → Spells ds n → (k : ℕ) → 1 ≤ k → k < length ds → 10 ^ k ≤ n
long-above n ds s k one l =
    let two : 2 ≤ length ds = omega arith in
    let bottom : 10 ^ (length ds - 1) ≤ digits_from 0 ds = long ds s.0 two in
    let is : digits_from 0 ds ≡ n = s.1 in
    let ten : zero < 10 = omega arith in
    let less : k ≤ length ds - 1 = omega arith in
    let power : 10 ^ k ≤ 10 ^ (length ds - 1) = pow-le-pow_right ten less in
    omega (arith, bottom, power)

numeral-length : (ds : List ℕ) → IsNumeral ds → 1 ≤ length ds
numeral-length [] h = absurd h
numeral-length (d ∷ ds) h = omega arith

not-shorter : (n : ℕ) (ds es : List ℕ) → Spells ds n → Spells es n → length ds < length es → ⊥
not-shorter n ds es s t l =
    let some : 1 ≤ length ds = numeral-length ds s.0 in
    let top : n < 10 ^ length ds = short-below n ds s (length ds) (omega arith) in
    let bottom : 10 ^ length ds ≤ n = long-above n es t (length ds) some l in
    omega (arith, top, bottom)

same-length : (n : ℕ) (ds es : List ℕ) → Spells ds n → Spells es n → length ds ≡ length es
same-length n ds es s t =
    let a : length ds < length es → ⊥ = not-shorter n ds es s t in
    let b : length es < length ds → ⊥ = not-shorter n es ds t s in
    omega arith

-- each number has one numeral
pub one-spelling : (n : ℕ) (ds es : List ℕ) → Spells ds n → Spells es n → ds ≡ es
one-spelling n ds es s t = (same-digits 0 0 ds es (numeral-digits ds s.0) (numeral-digits es t.0) (same-length n ds es s t) (s.1 ∙ sym t.1)).1

digits-snoc : (ds : List ℕ) (d : ℕ) → AreDigits ds → 48 ≤ d → d ≤ 57 → AreDigits (ds ++ d ∷ [])
digits-snoc [] d h low high = (low, high, tt)
digits-snoc (x ∷ ds) d h low high = (h.0, h.1, digits-snoc ds d h.2 low high)

value-snoc : (a : ℕ) (ds : List ℕ) (d : ℕ) → digits_from a (ds ++ d ∷ []) ≡ 10 * digits_from a ds + (d - 48)
value-snoc a [] d = refl
value-snoc a (x ∷ ds) d = value-snoc (10 * a + (x - 48)) ds d

numeral-snoc : (ds : List ℕ) (d : ℕ) → IsNumeral ds → 1 ≤ digits_from 0 ds → 48 ≤ d → d ≤ 57 → IsNumeral (ds ++ d ∷ [])
numeral-snoc [] d h v low high = absurd h
numeral-snoc (x ∷ []) d h v low high = (digits-snoc (x ∷ []) d h low high, λ (e : x ≡ 48). let w : 1 ≤ 10 * 0 + (x - 48) = v in omega arith)
numeral-snoc (x ∷ y ∷ ds) d h v low high = (digits-snoc (x ∷ y ∷ ds) d h.0 low high, h.1)

-- the decimal text of a number spells it
pub decimal-spells : (n : ℕ) → n < 2 ^ 64 → Spells (decimal n) n
decimal-spells n small = decimal_by_steps (λ (k : ℕ) (ds : List ℕ). Spells ds k)
    (λ k lt. ((omega arith, omega arith, tt), omega arith))
    (λ k ds ge s.
    let value : digits_from 0 ds ≡ k / 10 = s.1 in
    let some : 1 ≤ digits_from 0 ds = omega arith in
    (numeral-snoc ds (48 + k % 10) s.0 some (omega arith) (omega arith), value-snoc 0 ds (48 + k % 10) ∙ omega arith))
    n small

pub decimal-only : (n : ℕ) (ds : List ℕ) → n < 2 ^ 64 → Spells ds n → ds ≡ decimal n
decimal-only n ds small s = one-spelling n ds (decimal n) s (decimal-spells n small)

le-or-lt : (a b : ℕ) → (a ≤ b) ⊎ (b < a)
le-or-lt a b = grind arith

-- 18 digits are enough for the numbers below this one, and for no others
pub few-below : (n : ℕ) (ds : List ℕ) → Spells ds n → length ds ≤ 18 → n < 1000000000000000000
few-below n ds s l = short-below n ds s 18 l

pub below-few : (n : ℕ) (ds : List ℕ) → Spells ds n → n < 1000000000000000000 → length ds ≤ 18
below-few n ds s small =
    ⊎_elim (λ (l : length ds ≤ 18). l) (λ (l : 18 < length ds). let above : 1000000000000000000 ≤ n = long-above n ds s 18 (omega arith) l in absurd (omega arith)) (le-or-lt (length ds) 18)

pub count-next : (count n rest : ℕ) → 10 ≤ rest → rest < 2 ^ 64 → count + length (decimal rest) ≡ 1 + length (decimal n) → count + 1 + length (decimal (rest / 10)) ≡ 1 + length (decimal n)
count-next count n rest ge small h = let e = ap length (decimal_step rest ge small) ∙ length-append (decimal (rest / 10)) ((48 + rest % 10) ∷ []) in omega (arith, e)

pub count-last : (count n rest : ℕ) → rest < 10 → count + length (decimal rest) ≡ 1 + length (decimal n) → count ≡ length (decimal n)
count-last count n rest lt h = let e = ap length (decimal_digit rest lt) in omega (arith, e)

pub room-below : (n k : ℕ) → (n + 1) * 10 ^ k ≤ 1000000000000000000 → n < 1000000000000000000
room-below n k h =
    let ten : zero < 10 = omega arith in
    let some : 1 ≤ 10 ^ k = one-le-pow k 10 ten in
    let more : (n + 1) * 1 ≤ (n + 1) * 10 ^ k = mul-le-mul_left (n + 1) some in
    omega (arith, more)

pub room-next : (n d k : ℕ) → d ≤ 57 → (n + 1) * 10 ^ suc k ≤ 1000000000000000000 → (10 * n + (d - 48) + 1) * 10 ^ k ≤ 1000000000000000000
room-next n d k high h =
    let step : 10 * n + (d - 48) + 1 ≤ (n + 1) * 10 = omega arith in
    let more : (10 * n + (d - 48) + 1) * 10 ^ k ≤ (n + 1) * 10 * 10 ^ k = mul-le-mul_right (10 ^ k) step in
    let power : 10 ^ suc k ≡ 10 * 10 ^ k = pow-succ' 10 k in
    let room : (n + 1) * (10 * 10 ^ k) ≤ 1000000000000000000 = subst (λ (p : ℕ). (n + 1) * p ≤ 1000000000000000000) power h in
    grind (arith, more, room)

pub digits-rest : (ds : List ℕ) → 1 ≤ length ds → AreDigits ds → AreDigits (take (length ds - 1) (drop 1 ds))
digits-rest [] l h = absurd (omega arith)
digits-rest (d ∷ ds) l h = subst AreDigits (sym (take_all (length (d ∷ ds) - 1) ds (omega arith))) h.2

pub digit-first : (ds : List ℕ) → 1 ≤ length ds → AreDigits ds → get_or ds 0 0 ≤ 57
digit-first [] l h = absurd (omega arith)
digit-first (d ∷ ds) l h = h.1

pub room-rest : (n x : ℕ) (ds : List ℕ) → 1 ≤ length ds → AreDigits ds → x ≡ get_or ds 0 0 - 48 → (n + 1) * 10 ^ length ds ≤ 1000000000000000000 → (10 * n + x + 1) * 10 ^ length (take (length ds - 1) (drop 1 ds)) ≤ 1000000000000000000
room-rest n x [] l h e room = absurd (omega arith)
room-rest n x (d ∷ ds) l h e room =
    subst (λ (es : List ℕ). (10 * n + x + 1) * 10 ^ length es ≤ 1000000000000000000) (sym (take_all (length (d ∷ ds) - 1) ds (omega arith)))
    (subst (λ (y : ℕ). (10 * n + y + 1) * 10 ^ length ds ≤ 1000000000000000000) (sym e) (room-next n d (length ds) h.1 room))

-- the text of a whole number, and its digits
pub int_digits : ℤ → List ℕ
int_digits (pos n) = decimal n
int_digits (negsuc n) = decimal (suc n)

text-is : (s : ℤ) → nat_abs s < 2 ^ 64 → IsText (signed_decimal s) (int_digits s) s
unfolding int_digits
text-is (pos n) lt = (refl, decimal-spells n lt)
text-is (negsuc n) lt = (refl, subst (Spells (decimal (suc n))) (sym (add-one n)) (decimal-spells (suc n) lt))

text-spells : (s : ℤ) (w ds : List ℕ) → IsText w ds s → Spells ds (nat_abs s)
text-spells (pos n) w ds h = h.1
text-spells (negsuc n) w ds h = subst (Spells ds) (add-one n) h.1

text-only : (s : ℤ) (w ds : List ℕ) → nat_abs s < 2 ^ 64 → IsText w ds s → w ≡ signed_decimal s
text-only (pos n) w ds lt h = h.0 ∙ decimal-only n ds lt h.1
text-only (negsuc n) w ds lt h = h.0 ∙ ap (λ (l : List ℕ). 45 ∷ l) (decimal-only (suc n) ds lt (subst (Spells ds) (add-one n) h.1))

head-of : (x y : ℕ) (xs ys : List ℕ) → x ∷ xs ≡ y ∷ ys → x ≡ y
head-of x y xs ys e = cc

rest-of : (x y : ℕ) (xs ys : List ℕ) → x ∷ xs ≡ y ∷ ys → xs ≡ ys
rest-of x y xs ys e = cc

-- no numeral begins with a minus
no-minus : (ds es : List ℕ) (n : ℕ) → Spells ds n → ds ≡ 45 ∷ es → ⊥
no-minus [] es n s e = absurd (cc)
no-minus (d ∷ ds) es n s e = let is : d ≡ 45 = head-of d 45 ds es e in let low : 48 ≤ d = (numeral-digits (d ∷ ds) s.0).0 in omega arith

same-value : (ds es : List ℕ) (m n : ℕ) → Spells ds m → Spells es n → ds ≡ es → m ≡ n
same-value ds es m n s t e = sym s.1 ∙ (ap (digits_from 0) e ∙ t.1)

-- a text is of one number
pub number-one : (u : List ℕ) (z y : ℤ) → IsNumberOf u z → IsNumberOf u y → z ≡ y
number-one u (pos m) (pos n) h k = ap pos (same-value h.0 k.0 m n h.1.1 k.1.1 (sym h.1.0 ∙ k.1.0))
number-one u (pos m) (negsuc n) h k = absurd (no-minus h.0 k.0 m h.1.1 (sym h.1.0 ∙ k.1.0))
number-one u (negsuc m) (pos n) h k = absurd (no-minus k.0 h.0 n k.1.1 (sym k.1.0 ∙ h.1.0))
number-one u (negsuc m) (negsuc n) h k =
    let e : m + 1 ≡ n + 1 = same-value h.0 k.0 (m + 1) (n + 1) h.1.1 k.1.1 (rest-of 45 45 h.0 k.0 (sym h.1.0 ∙ k.1.0)) in
    let f : m ≡ n = omega arith in ap negsuc f

number-small : (u : List ℕ) (z : ℤ) → IsNumberOf u z → nat_abs z < 1000000000000000000
number-small u z h = few-below (nat_abs z) h.0 (text-spells z u h.0 h.1) h.2

pub sums-short : (u : List ℕ) (z by s : ℤ) → IsNumberOf u z → s ≡ z +ℤ by → nat_abs s < 1000000000000000000 → Sums u by (signed_decimal s)
sums-short u z by s num e small =
    let big : nat_abs s < 2 ^ 64 = omega arith in
    let text : IsText (signed_decimal s) (int_digits s) s = text-is s big in
    record {
      is = (int_digits s, (z, num, subst (IsText (signed_decimal s) (int_digits s)) e text), below-few (nat_abs s) (int_digits s) (text-spells s (signed_decimal s) (int_digits s) text) small);
      only = λ v h. text-only s v h.0 big (subst (IsText v h.0) (ap (λ (y : ℤ). y +ℤ by) (number-one u h.1.0 z h.1.1 num) ∙ sym e) h.1.2);
      short = λ h.
          let t : IsText h.0 h.1 s = subst (IsText h.0 h.1) (ap (λ (y : ℤ). y +ℤ by) (number-one u h.2.0 z h.2.1 num) ∙ sym e) h.2.2 in
          let few : length h.1 ≤ 18 = below-few (nat_abs s) h.1 (text-spells s h.0 h.1 t) small in
          let many : 18 < length h.1 = h.3 in
          omega arith;
    }

add-abs : (a b : ℤ) → nat_abs a < 1000000000000000000 → nat_abs b ≤ 2 ^ 63 → nat_abs (a +ℤ b) < 2 ^ 64
add-abs a b h k = omega (arith, ints)

pub sums-long : (u : List ℕ) (z by : ℤ) → IsNumberOf u z → nat_abs by ≤ 2 ^ 63 → 1000000000000000000 ≤ nat_abs (z +ℤ by) → HasLongSum u by
sums-long u z by num fits large =
    let s : ℤ = z +ℤ by in
    let big : nat_abs s < 2 ^ 64 = add-abs z by (number-small u z num) fits in
    let text : IsText (signed_decimal s) (int_digits s) s = text-is s big in
    let many = λ (ds : List ℕ) (sp : Spells ds (nat_abs s)). λ (l : length ds ≤ 18). let low : nat_abs s < 1000000000000000000 = few-below (nat_abs s) ds sp l in absurd {A = ⊥} (omega arith) in
    record {
      long = (signed_decimal s, int_digits s, (z, num, text), ⊎_elim (λ (l : length (int_digits s) ≤ 18). absurd (many (int_digits s) (text-spells s (signed_decimal s) (int_digits s) text) l)) (λ (l : 18 < length (int_digits s)). l) (le-or-lt (length (int_digits s)) 18));
      none = λ w h. many h.0 (text-spells s w h.0 (subst (IsText w h.0) (ap (λ (y : ℤ). y +ℤ by) (number-one u h.1.0 z h.1.1 num)) h.1.2)) h.2;
    }

pub negated : (n : ℕ) (s : ℤ) → 0 < n → n < 1000000000000000000 → s ≡ pos n → to_z w64 (of_z w64 (pos 0 -ℤ to_z w64 (of_z w64 s))) ≡ negsuc (n - 1)
negated n s some small e = omega (arith, ints)

pub minus-number : (r : Option ℤ) (u ds : List ℕ) → u ≡ 45 ∷ ds → MatchOption r ((n : ℕ) → Spells ds (n + 1) → length ds ≤ 18 → ⊥) (λ z. (n : ℕ) × (z ≡ negsuc n) × Spells ds (n + 1) × (length ds ≤ 18)) → MatchOption r (IsNumber u → ⊥) (IsNumberOf u)
minus-number None u ds e h = λ p. never p.0 p.1
  where
    never : (z : ℤ) → IsNumberOf u z → ⊥
    never (pos n) k = no-minus k.0 ds n k.1.1 (sym k.1.0 ∙ e)
    never (negsuc n) k = let same : k.0 ≡ ds = rest-of 45 45 k.0 ds (sym k.1.0 ∙ e) in h n (subst (λ (l : List ℕ). Spells l (n + 1)) same k.1.1) (subst (λ (l : List ℕ). length l ≤ 18) same k.2)
minus-number (Some z) u ds e h = subst (IsNumberOf u) (sym h.1) (ds, (e, h.2), h.3)

pub plain-number : (r : Option ℤ) (u : List ℕ) → (get_or u 0 0 ≡ 45 → ⊥) → MatchOption r ((n : ℕ) → Spells u n → length u ≤ 18 → ⊥) (λ z. (n : ℕ) × (z ≡ pos n) × Spells u n × (length u ≤ 18)) → MatchOption r (IsNumber u → ⊥) (IsNumberOf u)
plain-number None u ne h = λ p. never p.0 p.1
  where
    never : (z : ℤ) → IsNumberOf u z → ⊥
    never (pos n) k = h n (subst (λ (l : List ℕ). Spells l n) (sym k.1.0) k.1.1) (subst (λ (l : List ℕ). length l ≤ 18) (sym k.1.0) k.2)
    never (negsuc n) k = ne (ap (λ (l : List ℕ). get_or l 0 0) k.1.0)
plain-number (Some z) u ne h = subst (IsNumberOf u) (sym h.1) (u, (refl, h.2), h.3)

pub decimal-length : (n : ℕ) → n < 2 ^ 64 → length (decimal n) ≤ 20
decimal-length n small = ⊎_elim (λ (l : length (decimal n) ≤ 20). l)
    (λ (l : 20 < length (decimal n)). let above : 100000000000000000000 ≤ n = long-above n (decimal n) (decimal-spells n small) 20 (omega arith) l in absurd (omega arith))
    (le-or-lt (length (decimal n)) 20)

pub begins-with : (u : List ℕ) → 1 ≤ length u → get_or u 0 0 ≡ 45 → u ≡ 45 ∷ take (length u - 1) (drop 1 u)
begins-with [] l e = absurd (omega arith)
begins-with (x ∷ u) l e = let whole : take (length (x ∷ u) - 1) u ≡ u = take_all (length (x ∷ u) - 1) u (omega arith) in ap (λ (y : ℕ). y ∷ u) e ∙ ap (λ (l : List ℕ). 45 ∷ l) (sym whole)

pub not-empty : (u : List ℕ) → false ≡ eqb (length u) 0 → 1 ≤ length u
not-empty [] h = absurd (true≢false (sym h))
not-empty (x ∷ u) h = omega arith

-- a number in 64 bits is itself
kept : (z : ℤ) → nat_abs z < 2 ^ 63 → to_z w64 (of_z w64 z) ≡ z
kept z h = omega (arith, ints)

abs-fits : (z : ℤ) → mag z < 2 ^ 63 → nat_abs z ≤ 2 ^ 63
abs-fits (pos n) h = omega arith
abs-fits (negsuc n) h = omega arith

kept-fits : (z : ℤ) → mag z < 2 ^ 63 → to_z w64 (of_z w64 z) ≡ z
kept-fits z h = to_z-of_z w64 z (record { sfits = h })

kept-sum : (u : List ℕ) (z by : ℤ) → IsNumberOf u z → mag by < 2 ^ 63 → to_z w64 (of_z w64 z) +ℤ to_z w64 (of_z w64 by) ≡ z +ℤ by
kept-sum u z by num fits =
    let small : nat_abs z < 1000000000000000000 = number-small u z num in
    ap (λ (y : ℤ). y +ℤ to_z w64 (of_z w64 by)) (kept z (omega arith)) ∙ ap (λ (y : ℤ). z +ℤ y) (kept-fits by fits)

pub summed : (u : List ℕ) (z by s : ℤ) → IsNumberOf u z → mag by < 2 ^ 63 → s ≡ to_z w64 (of_z w64 z) +ℤ to_z w64 (of_z w64 by) → nat_abs s < 1000000000000000000 → Sums u by (signed_decimal (to_z w64 (of_z w64 s)))
summed u z by s num fits e small = subst (λ (y : ℤ). Sums u by (signed_decimal y)) (sym (kept s (omega arith))) (sums-short u z by s num (e ∙ kept-sum u z by num fits) small)

pub not-summed : (u : List ℕ) (z by : ℤ) → IsNumberOf u z → mag by < 2 ^ 63 → 1000000000000000000 ≤ nat_abs (to_z w64 (of_z w64 z) +ℤ to_z w64 (of_z w64 by)) → HasLongSum u by
not-summed u z by num fits large = sums-long u z by num (abs-fits by fits) (subst (λ (y : ℤ). 1000000000000000000 ≤ nat_abs y) (kept-sum u z by num fits) large)
