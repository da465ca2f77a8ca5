-- What crashes leave of a twin during a put. It serves the goals of putting.rt.
use Rattle.std.proofs.Common.{◌≡◌, ◌≢◌, inl, ℕ, ◌+◌, ◌<◌, ◌≤◌, List, length, refl, subst, arith}
use Rattle.std.specs.Prelude.{IfSome}
use Rattle.sd_base.specs.Twin.{Slot, Same, chosen_body, chosen_slot, number_of}
use Rattle.sd_rig.specs.Devices.{AgreesOutside, DeviceImages, LeavesSame}
use Rattle.sd_rig.specs.Ranges.{outside_then, outside_wider}
use Rattle.sd_rig.specs.declared.slots.Chosen.{Chosen}
use Rattle.sd_rig.specs.declared.slots.Chosen.TheVariants as C
use Rattle.sd_rig.specs.Gates.{Closes, Fills}
use Rattle.sd_rig.specs.Slots.{slot, slots_len}
use Rattle.sd_rig.proofs.Gates.{others_from}
use Rattle.sd_rig.specs.Puts.{Puts, filled_gate}
use Rattle.sd_rig.proofs.Choice.{closing_counts, filled_within, filling_counts}
use Rattle.sd_rig.proofs.TwinSlots.{closing_differs, closing_from, filling_differs, filling_from}

pub slot_differs : (c : Chosen) → c ≢ C.Same → slot c ≢ Same
slot_differs C.Neither ne e = cc
slot_differs (C.First other) ne e = cc
slot_differs (C.Second other) ne e = cc
slot_differs C.Same ne e = absurd (ne refl)

-- a write of the gate alone, and then of the slot, lies in the slot
pub slot_after : (gate n : ℕ) (a b c : List ℕ) → AgreesOutside gate 1 a b → AgreesOutside gate (n + 1) b c → AgreesOutside gate (n + 1) a c
slot_after gate n a b c f g = outside_then gate (n + 1) a b c (outside_wider gate (n + 1) gate 1 a b f (omega arith) (omega arith)) g

-- and the slot lies in the twin
pub twin_outside : (s : Slot) (at n m : ℕ) (old new : List ℕ) → m ≤ n + 1 → AgreesOutside (filled_gate s at n) m old new → AgreesOutside at (slots_len n) old new
twin_outside s at n m old new le a =
    let within = filled_within s at n in
    let low : at ≤ filled_gate s at n = within.0 in
    let high : filled_gate s at n + (n + 1) ≤ at + slots_len n = within.1 in
    let first : filled_gate s at n + m ≤ filled_gate s at n + (n + 1) = omega arith in
    let all : filled_gate s at n + m ≤ at + slots_len n = omega arith in
    outside_wider at (slots_len n) (filled_gate s at n) m old new a low all

pub puts_close : (s : Slot) (dev gate at n : ℕ) (body : List ℕ) (seen : DeviceImages) (leaves : ℕ → List ℕ → Type 0) (img : DeviceImages) → gate ≡ filled_gate s at n → chosen_slot at n (seen dev) ≡ s → s ≢ Same → Closes dev gate seen leaves img → Puts dev at n body seen leaves img
puts_close s dev gate at n body seen leaves img is e ne w =
    let here : Closes dev (filled_gate s at n) seen leaves img = subst (λ g. Closes dev g seen leaves img) is w in
    record {
      others = here.others;
      outside = twin_outside s at n 1 (seen dev) (img dev) (omega arith) here.outside;
      whole = inl (closing_counts s at n (seen dev) (img dev) e ne here.outside here.shut);
      first = (closing_from s at n body (seen dev) (img dev) e ne here.outside here.shut).0;
      second = (closing_from s at n body (seen dev) (img dev) e ne here.outside here.shut).1;
      differ = closing_differs s at n body (seen dev) (img dev) e ne here.outside here.shut;
    }

pub puts_fill : (s : Slot) (dev gate at n : ℕ) (body : List ℕ) (seen seen' : DeviceImages) (leaves leaves' : ℕ → List ℕ → Type 0) (img : DeviceImages) → gate ≡ filled_gate s at n → length body ≡ n → chosen_slot at n (seen dev) ≡ s → s ≢ Same → IfSome (chosen_body at n (seen dev)) (λ b. number_of b < number_of body) → AgreesOutside gate 1 (seen dev) (seen' dev) → ((d : ℕ) → d ≢ dev → LeavesSame (leaves d) (leaves' d)) → Fills dev gate (length body) body seen' leaves' img → Puts dev at n body seen leaves img
puts_fill s dev gate at n body seen seen' leaves leaves' img is len e ne greater closed same w =
    let here : Fills dev (filled_gate s at n) n body seen' leaves' img = subst (λ m. Fills dev (filled_gate s at n) m body seen' leaves' img) len (subst (λ g. Fills dev g (length body) body seen' leaves' img) is w) in
    let first : AgreesOutside (filled_gate s at n) 1 (seen dev) (seen' dev) = subst (λ g. AgreesOutside g 1 (seen dev) (seen' dev)) is closed in
    let both : AgreesOutside (filled_gate s at n) (n + 1) (seen dev) (img dev) = slot_after (filled_gate s at n) n (seen dev) (seen' dev) (img dev) first here.outside in
    record {
      others = others_from dev leaves leaves' img same here.others;
      outside = twin_outside s at n (n + 1) (seen dev) (img dev) (omega arith) both;
      whole = filling_counts s at n body (seen dev) (img dev) e ne greater both here.whole;
      first = (filling_from s at n body (seen dev) (img dev) e ne both here.whole).0;
      second = (filling_from s at n body (seen dev) (img dev) e ne both here.whole).1;
      differ = filling_differs s at n body (seen dev) (img dev) e ne both here.whole greater;
    }
