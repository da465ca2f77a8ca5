-- Slots after a write, slot by slot. It serves the laws of laws.rt.
use Rattle.std.proofs.Common.{◌≡◌, ◌≢◌, ℕ, zero, suc, ◌+◌, ◌<◌, ◌≤◌, List, [], ◌∷◌, length, Option, Some, refl, ap, arith}
use Rattle.sd_page.specs.Page.{Slot, value_at, capacity_at, written}

pub value_at-written : (slots : List Slot) (s capacity : ℕ) (value : Option (List ℕ)) → s ≤ length slots → value_at (written slots s capacity value) s ≡ value
value_at-written [] zero capacity value le = refl
value_at-written [] (suc s) capacity value le = absurd (omega arith)
value_at-written (slot ∷ slots) zero capacity value le = refl
value_at-written (slot ∷ slots) (suc s) capacity value le = value_at-written slots s capacity value (omega arith)

pub value_at-written_other : (slots : List Slot) (s t capacity : ℕ) (value : Option (List ℕ)) → s ≤ length slots → t ≢ s → value_at (written slots s capacity value) t ≡ value_at slots t
value_at-written_other [] zero zero capacity value le ne = absurd (ne refl)
value_at-written_other [] zero (suc t) capacity value le ne = refl
value_at-written_other [] (suc s) t capacity value le ne = absurd (omega arith)
value_at-written_other (slot ∷ slots) zero zero capacity value le ne = absurd (ne refl)
value_at-written_other (slot ∷ slots) zero (suc t) capacity value le ne = refl
value_at-written_other (slot ∷ slots) (suc s) zero capacity value le ne = refl
value_at-written_other (slot ∷ slots) (suc s) (suc t) capacity value le ne = value_at-written_other slots s t capacity value (omega arith) (λ e. ne (ap suc e))

pub capacity_at-written : (slots : List Slot) (s t capacity : ℕ) (value : Option (List ℕ)) → t < length slots → capacity_at (written slots s capacity value) t ≡ capacity_at slots t
capacity_at-written [] s t capacity value lt = absurd (omega arith)
capacity_at-written (slot ∷ slots) zero zero capacity value lt = refl
capacity_at-written (slot ∷ slots) zero (suc t) capacity value lt = refl
capacity_at-written (slot ∷ slots) (suc s) zero capacity value lt = refl
capacity_at-written (slot ∷ slots) (suc s) (suc t) capacity value lt = capacity_at-written slots s t capacity value (omega arith)

pub capacity_at-written_new : (slots : List Slot) (capacity : ℕ) (value : Option (List ℕ)) → capacity_at (written slots (length slots) capacity value) (length slots) ≡ Some capacity
capacity_at-written_new [] capacity value = refl
capacity_at-written_new (slot ∷ slots) capacity value = capacity_at-written_new slots capacity value

pub length-written : (slots : List Slot) (s capacity : ℕ) (value : Option (List ℕ)) → s < length slots → length (written slots s capacity value) ≡ length slots
length-written [] s capacity value lt = absurd (omega arith)
length-written (slot ∷ slots) zero capacity value lt = refl
length-written (slot ∷ slots) (suc s) capacity value lt = ap suc (length-written slots s capacity value (omega arith))

pub length-written_new : (slots : List Slot) (capacity : ℕ) (value : Option (List ℕ)) → length (written slots (length slots) capacity value) ≡ length slots + 1
length-written_new [] capacity value = refl
length-written_new (slot ∷ slots) capacity value = omega (arith, length-written_new slots capacity value)
