-- What an edit comes to in a slot of a page. For `plan_in` and `plan_sum`.
use Rattle.std.proofs.Common.{◌≡◌, ℕ, zero, suc, ◌<◌, ◌≤◌, List, [], ◌∷◌, length, refl, sym, ap, ◌∙◌, subst, arith, Bor, inr}
use Rattle.std.specs.Prelude.{Option, None, Some, IsSome, option_copied, ℤ}
use Rattle.std.specs.List.{AllByRecursion}
use Rattle.sd_base.specs.Values.{size}
use Rattle.sd_base.specs.declared.refusal.Refusal.{Refusal}
use Rattle.sd_base.specs.declared.refusal.Refusal.TheVariants as R
use Rattle.sd_model.specs.Numbers.{Sums}
use Rattle.sd_page.specs.Page.{Page, PageFits, Slot, SlotFits, capacity_at, value_at}
use Rattle.sd_chain.specs.Pages.{capacity, value}
use Rattle.sd_chain.proofs.Slots.{has-slot, value-at}
use Rattle.sd_ops.specs.declared.edits.Edit.{Edit}
use Rattle.sd_ops.specs.declared.edits.Edit.TheVariants.{To, By, Gone}
use Rattle.sd_ops.specs.declared.edits.Plan.{Plan}
use Rattle.sd_ops.specs.declared.edits.Plan.TheVariants.{Put, Refuse}
use Rattle.sd_ops.specs.Edits.{IsFitted, IsPlan, IsSpoiled, IsSumFitted, Makes, Sets, Spoils}

-- a slot with a value has a capacity
pub has-capacity : (slots : List Slot) (s : ℕ) (u : List ℕ) → value_at slots s ≡ Some u → IsSome (capacity_at slots s)
has-capacity [] s u found = absurd (cc)
has-capacity (x ∷ xs) zero u found = refl
has-capacity (x ∷ xs) (suc s) u found = has-capacity xs s u found

-- a slot of a page fits its place
pub slot-fits : (slots : List Slot) (s : ℕ) → AllByRecursion SlotFits slots → s < length slots
    → (capacity slots s ≤ 256) × (size (value slots s) ≤ capacity slots s)
slot-fits [] s all lt = absurd (omega (arith, lt))
slot-fits (x ∷ xs) zero all lt = (all.0.capacity, all.0.value)
slot-fits (x ∷ xs) (suc s) all lt = slot-fits xs s all.1 (omega (arith, lt))

-- a sum's text in a slot
pub sum-fitted : (own : ℕ) (u v : List ℕ) (by : ℤ) → Sums u by v → (plan : Plan) → IsFitted own v plan → IsSumFitted own u by plan
sum-fitted own u v by sums (Put new after) f = (v, f.0, f.1, f.2, sums)
sum-fitted own u v by sums (Refuse R.TooLong) f = inr (v, f, sums)
sum-fitted own u v by sums (Refuse n) f = elim f [ ]

module _ (page : Page) (s own : ℕ) (u : List ℕ) (fits : PageFits page) (found : value_at page.slots s ≡ Some u)
    (has : capacity_at page.slots s ≡ Some own) where
  place : s < length page.slots
  place = (has-slot page.slots s own has).0

  own-is : own ≡ capacity page.slots s
  own-is = (has-slot page.slots s own has).1

  value-is : value page.slots s ≡ Some u
  value-is = sym (value-at page.slots s) ∙ found

  small : own ≤ 256
  small = let all = slot-fits page.slots s fits.slots place in let is = own-is in omega (arith, all.0, is)

  room : length u ≤ own
  room = let all = slot-fits page.slots s fits.slots place in let is = own-is in let had = ap size value-is in omega (arith, all.1, is, had)

  sets : (edit : Edit) (new : ℕ) (after : Option (List ℕ)) → new ≡ own → Makes edit u after → size after ≤ own → Sets page s edit new after
  sets edit new after same makes within = record {
    u = u;
    found = value-is;
    makes = makes;
    place = place;
    fits = record {
      place = let lt = place in omega (arith, lt);
      found = refl;
      same = λ lt. same ∙ own-is;
      room = λ e. let lt = place in absurd (omega (arith, lt, e));
      within = omega (arith, same, within);
    };
    small = let le = small in omega (arith, same, le);
    had_small = let le = small in let had = room in omega (arith, le, had);
  }

  spoiled : (edit : Edit) (n : Refusal) → Spoils edit u own n → IsSpoiled page s edit n
  spoiled edit n why = record {
    u = u;
    found = value-is;
    place = place;
    room = let had = room in let is = own-is in omega (arith, had, is);
    why = subst (λ (k : ℕ). Spoils edit u k n) own-is why;
  }

  pub to-planned : (v : Bor (List ℕ)) (plan : Plan) → IsFitted own v.now plan → IsPlan page s (To v) plan
  to-planned v (Put new after) f =
      sets (To v) new (option_copied after) f.0 f.1 (let le = f.2 in let e = ap size f.1 in omega (arith, le, e))
  to-planned v (Refuse R.TooLong) f = spoiled (To v) R.TooLong f
  to-planned v (Refuse n) f = elim f [ ]

  pub sum-planned : (by : ℤ) (plan : Plan) → IsSumFitted own u by plan → IsPlan page s (By by) plan
  sum-planned by (Put new after) f =
      sets (By by) new (option_copied after) f.1 (f.0, f.2, f.4) (let le = f.3 in let e = ap size f.2 in omega (arith, le, e))
  sum-planned by (Refuse R.NotNumber) f = spoiled (By by) R.NotNumber f
  sum-planned by (Refuse R.TooLong) f = spoiled (By by) R.TooLong f
  sum-planned by (Refuse n) f = elim f [ ]

  pub gone-planned : Sets page s Gone own None
  gone-planned = sets Gone own None refl refl (omega arith)
