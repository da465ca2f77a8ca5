-- A set of instances in one byte, as the rising list of its members.
use Rattle.std.specs.Prelude.{ℕ, ◌-◌, ◌^◌, Bool, true, false, List, [], ◌∷◌, eqb, ltb, cond, not, bit_and, Option, None, Some}

abbrev pub has : ℕ → List ℕ → Bool
has k [] = false
has k (x ∷ xs) = cond (eqb x k) true (has k xs)

abbrev pub without : ℕ → List ℕ → List ℕ
without i [] = []
without i (x ∷ xs) = cond {A = List ℕ} (eqb x i) (without i xs) (x ∷ without i xs)

-- the member in its place of the rising list
abbrev pub with_member : ℕ → List ℕ → List ℕ
with_member i [] = i ∷ []
with_member i (x ∷ xs) = cond {A = List ℕ} (eqb x i) (x ∷ xs) (cond {A = List ℕ} (ltb i x) (i ∷ x ∷ xs) (x ∷ with_member i xs))

-- the bit of an instance
abbrev pub bit : ℕ → ℕ
bit n = 2 ^ (n - 1)

abbrev pub in_byte : ℕ → ℕ → Bool
in_byte b n = not (eqb (bit_and b (bit n)) 0)

abbrev pub chosen : (ℕ → Bool) → List ℕ → List ℕ
chosen test [] = []
chosen test (x ∷ xs) = cond {A = List ℕ} (test x) (x ∷ chosen test xs) (chosen test xs)

-- the instances of a byte, rising
abbrev pub members : ℕ → List ℕ
members b = chosen (in_byte b) (1 ∷ 2 ∷ 3 ∷ 4 ∷ 5 ∷ 6 ∷ 7 ∷ 8 ∷ [])

abbrev pub first : List ℕ → Option ℕ
first [] = None
first (x ∷ xs) = Some x
