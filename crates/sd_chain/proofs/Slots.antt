-- What a write leaves of a page's slots.
use Rattle.std.proofs.Common.{◌≡◌, ◌≢◌, ℕ, zero, suc, ◌<◌, ◌≤◌, List, [], ◌∷◌, length, refl, ap, arith, None, Some}
use Rattle.sd_chain.specs.Records.{Val}
use Rattle.sd_page.specs.Page.{Slot, capacity_at, value_at}
use Rattle.sd_chain.specs.Pages.{value, capacity, write}

pub value-write_same : (slots : List Slot) (s c : ℕ) (v : Val) → value (write slots s c v) s ≡ v
value-write_same [] zero c v = refl
value-write_same [] (suc s) c v = value-write_same [] s c v
value-write_same (x ∷ xs) zero c v = refl
value-write_same (x ∷ xs) (suc s) c v = value-write_same xs s c v

pub value-write_other : (slots : List Slot) (s r c : ℕ) (v : Val) → s ≢ r → value (write slots s c v) r ≡ value slots r
value-write_other [] zero zero c v ne = absurd (ne refl)
value-write_other [] zero (suc r) c v ne = refl
value-write_other [] (suc s) zero c v ne = refl
value-write_other [] (suc s) (suc r) c v ne = value-write_other [] s r c v (λ e. ne (ap suc e))
value-write_other (x ∷ xs) zero zero c v ne = absurd (ne refl)
value-write_other (x ∷ xs) zero (suc r) c v ne = refl
value-write_other (x ∷ xs) (suc s) zero c v ne = refl
value-write_other (x ∷ xs) (suc s) (suc r) c v ne = value-write_other xs s r c v (λ e. ne (ap suc e))

pub length-write : (slots : List Slot) (s c : ℕ) (v : Val)
    → (length slots ≤ length (write slots s c v)) × (s < length (write slots s c v))
length-write [] zero c v = (omega arith, omega arith)
length-write [] (suc s) c v = let ih = length-write [] s c v in (omega arith, omega arith)
length-write (x ∷ xs) zero c v = (omega arith, omega arith)
length-write (x ∷ xs) (suc s) c v = let ih = length-write xs s c v in (omega arith, omega arith)

pub capacity-write : (slots : List Slot) (s r c : ℕ) (v : Val) → r < length slots
    → capacity (write slots s c v) r ≡ capacity slots r
capacity-write [] s r c v lt = absurd (omega arith)
capacity-write (x ∷ xs) zero zero c v lt = refl
capacity-write (x ∷ xs) zero (suc r) c v lt = refl
capacity-write (x ∷ xs) (suc s) zero c v lt = refl
capacity-write (x ∷ xs) (suc s) (suc r) c v lt = capacity-write xs s r c v (omega arith)

-- a new slot has the capacity that the record names

pub value-at : (slots : List Slot) (s : ℕ) → value_at slots s ≡ value slots s
value-at [] s = refl
value-at (x ∷ xs) zero = refl
value-at (x ∷ xs) (suc s) = value-at xs s

pub capacity-at : (slots : List Slot) (s : ℕ) → s < length slots → capacity_at slots s ≡ Some (capacity slots s)
capacity-at [] s lt = absurd (omega (arith, lt))
capacity-at (x ∷ xs) zero lt = refl
capacity-at (x ∷ xs) (suc s) lt = capacity-at xs s (omega (arith, lt))

pub capacity-none : (slots : List Slot) (s : ℕ) → length slots ≤ s → capacity_at slots s ≡ None
capacity-none [] s le = refl
capacity-none (x ∷ xs) zero le = absurd (omega (arith, le))
capacity-none (x ∷ xs) (suc s) le = capacity-none xs s (omega (arith, le))

-- a slot with a capacity is one of the page's
pub has-slot : (slots : List Slot) (s own : ℕ) → capacity_at slots s ≡ Some own → (s < length slots) × (own ≡ capacity slots s)
has-slot [] s own is = absurd (cc)
has-slot (x ∷ xs) zero own is = (omega arith, some-is is)
  where
    some-is : Some x.0 ≡ Some own → own ≡ x.0
    some-is e = cc
has-slot (x ∷ xs) (suc s) own is = let h = has-slot xs s own is in (omega (arith, h.0), h.1)

-- and one without a capacity isn't
pub lacks-slot : (slots : List Slot) (s : ℕ) → capacity_at slots s ≡ None → length slots ≤ s
lacks-slot [] s is = omega arith
lacks-slot (x ∷ xs) zero is = absurd (cc)
lacks-slot (x ∷ xs) (suc s) is = omega (arith, lacks-slot xs s is)
