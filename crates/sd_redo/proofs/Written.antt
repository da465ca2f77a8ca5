-- The two ways to say what a slot has: by clauses, as the laws do, and by look-ups, as pages do. It serves redoing.rt.
use Rattle.std.proofs.Common.{◌≡◌, ◌<◌, ◌≤◌, ℕ, zero, suc, List, [], ◌∷◌, length, refl, ap, ⊎_elim, arith}
use Rattle.std.specs.Prelude.{unwrap_or}
use Rattle.std.proofs.lemmas.Bool.{cases_lt}
use Rattle.sd_base.specs.Values.{size}
use Rattle.sd_page.specs.Page.{CanTake, Slot, capacity_for, written}
use Rattle.sd_chain.specs.Records.{Val}
use Rattle.sd_chain.specs.Pages.{FitsUndo, FitsUpdate, capacity, write}
use Rattle.sd_chain.proofs.Slots.{capacity-at, capacity-none}

pub write-written : (slots : List Slot) (s c : ℕ) (v : Val) → s ≤ length slots → write slots s c v ≡ written slots s c v
write-written [] zero c v le = refl
write-written [] (suc s) c v le = absurd (omega (arith, le))
write-written (x ∷ xs) zero c v le = refl
write-written (x ∷ xs) (suc s) c v le = ap (λ l. x ∷ l) (write-written xs s c v (omega (arith, le)))

-- the capacity that a value of a slot finds
own-capacity : (slots : List Slot) (s c : ℕ) → s < length slots → capacity_for slots s c ≡ capacity slots s
own-capacity slots s c lt = ap (λ o. unwrap_or o c) (capacity-at slots s lt)

new-capacity : (slots : List Slot) (s c : ℕ) → length slots ≤ s → capacity_for slots s c ≡ c
new-capacity slots s c le = ap (λ o. unwrap_or o c) (capacity-none slots s le)

-- a page takes what fits it
pub takes-update : (slots : List Slot) (s c : ℕ) (before after : Val) → c ≤ 256 → FitsUpdate slots s c before after
    → CanTake slots s c (size after)
takes-update slots s c before after small fits = record {
  place = fits.place;
  room = fits.room;
  small = λ next. small;
  within = ⊎_elim
      (λ lt. let e = own-capacity slots s c lt in let same = fits.same lt in let w = fits.within in omega (arith, e, same, w))
      (λ le. let e = new-capacity slots s c le in let w = fits.within in omega (arith, e, w))
      (cases_lt s (length slots));
}

pub takes-undo : (slots : List Slot) (s : ℕ) (after : Val) → FitsUndo slots s after → CanTake slots s 0 (size after)
takes-undo slots s after fits = let lt = fits.place in record {
  place = omega (arith, lt);
  room = λ next. absurd (omega (arith, lt, next));
  small = λ next. absurd (omega (arith, lt, next));
  within = let e = own-capacity slots s 0 lt in let w = fits.within in omega (arith, e, w);
}
