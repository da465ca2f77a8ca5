-- Number texts: an optional minus and 1 to 18 digits, without leading zeros and without -0.
use Rattle.std.specs.Prelude.{◌≡◌, ◌≢◌, ℕ, ◌+◌, ◌*◌, ◌-◌, ◌≤◌, ◌<◌, List, [], ◌∷◌, length, ℤ, pos, negsuc, ◌+ℤ◌}
use Rattle.sd_model.specs.declared.numbers.NoSum.{NoSum}
use Rattle.sd_model.specs.declared.numbers.NoSum.TheVariants.{NotNumber, TooLong}

-- the number that digits spell behind those of n
abbrev pub digits_from : ℕ → List ℕ → ℕ
digits_from n [] = n
digits_from n (d ∷ ds) = digits_from (10 * n + (d - 48)) ds

abbrev pub AreDigits : List ℕ → Type 0
AreDigits [] = Unit {0}
AreDigits (d ∷ ds) = (48 ≤ d) × (d ≤ 57) × AreDigits ds

-- digits without leading zeros
abbrev pub IsNumeral : List ℕ → Type 0
IsNumeral [] = ⊥
IsNumeral (d ∷ []) = AreDigits (d ∷ [])
IsNumeral (d ∷ e ∷ ds) = AreDigits (d ∷ e ∷ ds) × (d ≢ 48)

-- the digits spell the number
abbrev pub Spells : List ℕ → ℕ → Type 0
Spells ds n = IsNumeral ds × (digits_from 0 ds ≡ n)

-- the text of a number, with its digits
abbrev pub IsText : List ℕ → List ℕ → ℤ → Type 0
IsText w ds (pos n) = (w ≡ ds) × Spells ds n
IsText w ds (negsuc n) = (w ≡ 45 ∷ ds) × Spells ds (n + 1)

-- u is a number text of z
abbrev pub IsNumberOf : List ℕ → ℤ → Type 0
IsNumberOf u z = (ds : List ℕ) × IsText u ds z × (length ds ≤ 18)

abbrev pub IsNumber : List ℕ → Type 0
IsNumber u = (z : ℤ) × IsNumberOf u z

-- u is a number text, and w the text of its sum with the number, with these digits
abbrev pub IsSumOf : List ℕ → ℤ → List ℕ → List ℕ → Type 0
IsSumOf u by w ds = (z : ℤ) × IsNumberOf u z × IsText w ds (z +ℤ by)

-- the sum is a number text too
abbrev pub IsSum : List ℕ → ℤ → List ℕ → Type 0
IsSum u by w = (ds : List ℕ) × IsSumOf u by w ds × (length ds ≤ 18)

-- the sum has too many digits
abbrev pub IsLongSum : List ℕ → ℤ → Type 0
IsLongSum u by = (w : List ℕ) × (ds : List ℕ) × IsSumOf u by w ds × (18 < length ds)

-- w is the one text of the sum
pub record Sums (u : List ℕ) (by : ℤ) (w : List ℕ) : Type 0 where
  pub is : IsSum u by w
  pub only : (v : List ℕ) → IsSum u by v → v ≡ w
  pub short : IsLongSum u by → ⊥

-- the sum has too many digits, so no text of it is a number text
pub record HasLongSum (u : List ℕ) (by : ℤ) : Type 0 where
  pub long : IsLongSum u by
  pub none : (w : List ℕ) → IsSum u by w → ⊥

-- why there is no sum
abbrev pub Lacks : NoSum → List ℕ → ℤ → Type 0
Lacks NotNumber u by = IsNumber u → ⊥
Lacks TooLong u by = HasLongSum u by
