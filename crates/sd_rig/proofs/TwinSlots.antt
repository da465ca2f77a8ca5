-- What each slot holds while a put goes on, and that one counts. It serves the goals of putting.rt.
use Rattle.std.proofs.Common.{◌≡◌, ◌≢◌, ◌⊎◌, ⊎_elim, inl, inr, ℕ, ◌+◌, ◌<◌, Bool, true, false, List, refl, sym, ap, ◌∙◌, arith}
use Rattle.std.specs.Prelude.{IfSome}
use Rattle.std.proofs.lemmas.Bool.{cases_Bool}
use Rattle.sd_base.specs.Twin.{Slot, Neither, First, Second, Same, body_at, chosen_body, chosen_slot, is_open, number_of, slot_of}
use Rattle.sd_rig.specs.Devices.{AgreesOutside}
use Rattle.sd_rig.specs.Ranges.{outside_wider}
use Rattle.sd_rig.proofs.Gates.{same_body}
use Rattle.sd_rig.specs.Puts.{IsFrom, after_put, filled_gate, kept_gate}
use Rattle.sd_rig.proofs.Choice.{SameSlot, kept_same, new_slot, slot_with}

pub from_same : (gate n : ℕ) (body old new : List ℕ) → SameSlot n gate old new → IsFrom gate n body old new
from_same gate n body old new k shown = inl (sym k.shown ∙ shown, k.body)

-- by their places
pub both_from : (s : Slot) (at n : ℕ) (body old new : List ℕ) → IsFrom (kept_gate s at n) n body old new → IsFrom (filled_gate s at n) n body old new
    → IsFrom at n body old new × IsFrom (at + n + 1) n body old new
both_from Neither at n body old new k f = (f, k)
both_from (First other) at n body old new k f = (k, f)
both_from (Second other) at n body old new k f = (f, k)
both_from Same at n body old new k f = (f, k)

first_closed : (o : Bool) (x y : ℕ) → slot_of false o x y ≢ Same
first_closed true x y e = cc
first_closed false x y e = cc

second_closed : (o : Bool) (x y : ℕ) → slot_of o false x y ≢ Same
second_closed true x y e = cc
second_closed false x y e = cc

closed_differs : (s : Slot) (at n : ℕ) (new : List ℕ) → is_open (filled_gate s at n) new ≡ false → chosen_slot at n new ≢ Same
closed_differs Neither at n new closed e = first_closed (is_open (at + n + 1) new) _ _ (sym (slot_with at n new false (is_open (at + n + 1) new) closed refl) ∙ e)
closed_differs (First other) at n new closed e = second_closed (is_open at new) _ _ (sym (slot_with at n new (is_open at new) false refl closed) ∙ e)
closed_differs (Second other) at n new closed e = first_closed (is_open (at + n + 1) new) _ _ (sym (slot_with at n new false (is_open (at + n + 1) new) closed refl) ∙ e)
closed_differs Same at n new closed e = first_closed (is_open (at + n + 1) new) _ _ (sym (slot_with at n new false (is_open (at + n + 1) new) closed refl) ∙ e)

same_slots : (at n : ℕ) (old new : List ℕ) → SameSlot n at old new → SameSlot n (at + n + 1) old new → chosen_slot at n new ≡ chosen_slot at n old
same_slots at n old new f g =
    slot_with at n new (is_open at old) (is_open (at + n + 1) old) f.shown g.shown
    ∙ ap (λ (b : List ℕ). slot_of (is_open at old) (is_open (at + n + 1) old) (number_of b) (number_of (body_at n (at + n + 1) new))) f.body
    ∙ ap (λ (b : List ℕ). slot_of (is_open at old) (is_open (at + n + 1) old) (number_of (body_at n at old)) (number_of b)) g.body

both_slots : (s : Slot) (at n : ℕ) (old new : List ℕ) → SameSlot n (kept_gate s at n) old new → SameSlot n (filled_gate s at n) old new → chosen_slot at n new ≡ chosen_slot at n old
both_slots Neither at n old new f g = same_slots at n old new g f
both_slots (First other) at n old new f g = same_slots at n old new f g
both_slots (Second other) at n old new f g = same_slots at n old new g f
both_slots Same at n old new f g = same_slots at n old new g f

after_differs : (s : Slot) → s ≢ Same → after_put s ≢ Same
after_differs Neither ne e = cc
after_differs (First other) ne e = cc
after_differs (Second other) ne e = cc
after_differs Same ne e = absurd (ne refl)

-- while the gate is closed
module _ (s : Slot) (at n : ℕ) (body old new : List ℕ) (e : chosen_slot at n old ≡ s) (ne : s ≢ Same) where
  module _ (a : AgreesOutside (filled_gate s at n) 1 old new) (shut : is_open (filled_gate s at n) new ≡ true → is_open (filled_gate s at n) old ≡ true) where
    kept_closing : SameSlot n (kept_gate s at n) old new
    kept_closing = kept_same s at n old new (outside_wider (filled_gate s at n) (n + 1) (filled_gate s at n) 1 old new a (omega arith) (omega arith))

    pub closing_from : IsFrom at n body old new × IsFrom (at + n + 1) n body old new
    closing_from = both_from s at n body old new (from_same (kept_gate s at n) n body old new kept_closing) (λ shown. inl (shut shown, same_body (filled_gate s at n) n old new a))

    pub closing_differs : chosen_slot at n new ≢ Same
    closing_differs same = ⊎_elim
        (λ shown. ne (sym e ∙ sym (both_slots s at n old new kept_closing (record { shown = shown ∙ sym (shut shown); body = same_body (filled_gate s at n) n old new a })) ∙ same))
        (λ closed. closed_differs s at n new closed same)
        (cases_Bool (is_open (filled_gate s at n) new))

  module _ (a : AgreesOutside (filled_gate s at n) (n + 1) old new) (whole : (is_open (filled_gate s at n) new ≡ false) ⊎ (body_at n (filled_gate s at n) new ≡ body)) where
    pub filling_from : IsFrom at n body old new × IsFrom (at + n + 1) n body old new
    filling_from = both_from s at n body old new (from_same (kept_gate s at n) n body old new (kept_same s at n old new a))
        (λ shown. ⊎_elim (λ closed. let c = sym shown ∙ closed in absurd (cc)) (λ filled. inr filled) whole)

    pub filling_differs : IfSome (chosen_body at n old) (λ b. number_of b < number_of body) → chosen_slot at n new ≢ Same
    filling_differs greater same = ⊎_elim
        (λ closed. closed_differs s at n new closed same)
        (λ filled. ⊎_elim
        (λ shown. after_differs s ne (sym (new_slot s at n body old new e ne (kept_same s at n old new a) shown filled greater) ∙ same))
        (λ closed. closed_differs s at n new closed same)
        (cases_Bool (is_open (filled_gate s at n) new)))
        whole
