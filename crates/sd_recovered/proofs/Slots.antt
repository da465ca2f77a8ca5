-- A slot's value and capacity, told by clauses and by look-ups, and after a write. It serves put_back and take_back.
use Rattle.std.proofs.Common.{◌≡◌, ◌<◌, ◌≤◌, ℕ, zero, suc, List, [], ◌∷◌, length, refl, ap, arith}
use Rattle.std.specs.Prelude.{unwrap_or}
use Rattle.sd_base.specs.Values.{size}
use Rattle.sd_page.specs.Page.{CanTake, Slot, capacity_for, written}
use Rattle.sd_chain.specs.Records.{Val}
use Rattle.sd_chain.specs.Pages.{capacity, write}
use Rattle.sd_recovered.specs.Values.{SameSlots}
use Rattle.sd_chain.proofs.Slots.{capacity-at}

pub write-written : (slots : List Slot) (s c : ℕ) (v : Val) → s < length slots → written slots s c v ≡ write slots s 0 v
write-written [] s c v lt = absurd (omega (arith, lt))
write-written (x ∷ xs) zero c v lt = refl
write-written (x ∷ xs) (suc s) c v lt = ap (λ l. x ∷ l) (write-written xs s c v (omega (arith, lt)))

-- a slot takes a value that its capacity fits
pub takes : (slots : List Slot) (s c : ℕ) (v : Val) → s < length slots → size v ≤ capacity slots s → CanTake slots s c (size v)
takes slots s c v lt room = record {
  place = omega (arith, lt);
  room = λ next. absurd (omega (arith, lt, next));
  small = λ next. absurd (omega (arith, lt, next));
  within = let e : capacity_for slots s c ≡ capacity slots s = ap (λ o. unwrap_or o c) (capacity-at slots s lt) in
      omega (arith, e, room);
}

length-write : (slots : List Slot) (s c : ℕ) (v : Val) → s < length slots → length (write slots s c v) ≡ length slots
length-write [] s c v lt = absurd (omega (arith, lt))
length-write (x ∷ xs) zero c v lt = refl
length-write (x ∷ xs) (suc s) c v lt = ap suc (length-write xs s c v (omega (arith, lt)))

capacity-write : (slots : List Slot) (s r c : ℕ) (v : Val) → s < length slots → capacity (write slots s c v) r ≡ capacity slots r
capacity-write [] s r c v lt = absurd (omega (arith, lt))
capacity-write (x ∷ xs) zero zero c v lt = refl
capacity-write (x ∷ xs) zero (suc r) c v lt = refl
capacity-write (x ∷ xs) (suc s) zero c v lt = refl
capacity-write (x ∷ xs) (suc s) (suc r) c v lt = capacity-write xs s r c v (omega (arith, lt))

pub same-written : (slots : List Slot) (s c : ℕ) (v : Val) → s < length slots → SameSlots slots (write slots s c v)
same-written slots s c v lt = record { count = length-write slots s c v lt; capacities = λ r. capacity-write slots s r c v lt }
