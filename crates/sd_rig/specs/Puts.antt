-- What a put does to a twin, and what a crash may leave of it meanwhile.
use Rattle.std.specs.Prelude.{◌≡◌, ◌≢◌, ◌⊎◌, ℕ, ◌+◌, Bool, true, false, List, Some}
use Rattle.sd_base.specs.Twin.{Slot, Neither, First, Second, Same, body_at, chosen_body, chosen_slot, is_open}
use Rattle.sd_rig.specs.Devices.{AgreesOutside, DeviceImages}
use Rattle.sd_rig.specs.Gates.{LeavesOthers}
use Rattle.sd_rig.specs.Slots.{slots_len}

-- the slot that counts after a put; the one that counted stays open
abbrev pub after_put : Slot → Slot
after_put Neither = First false
after_put (First other) = Second true
after_put (Second other) = First true
after_put Same = Same

-- the gate of the slot that a put fills, which doesn't count, and of the one that stays
abbrev pub filled_gate : Slot → ℕ → ℕ → ℕ
filled_gate Neither at n = at
filled_gate (First other) at n = at + n + 1
filled_gate (Second other) at n = at
filled_gate Same at n = at

abbrev pub kept_gate : Slot → ℕ → ℕ → ℕ
kept_gate Neither at n = at + n + 1
kept_gate (First other) at n = at
kept_gate (Second other) at n = at + n + 1
kept_gate Same at n = at + n + 1

-- whether the slot that a put fills is open before
abbrev pub filled_open : Slot → Bool
filled_open Neither = false
filled_open (First other) = other
filled_open (Second other) = other
filled_open Same = false

-- A slot that is open is as it was, or has this body.
abbrev pub IsFrom : ℕ → ℕ → List ℕ → List ℕ → List ℕ → Type 0
IsFrom gate n body old new =
    is_open gate new ≡ true → ((is_open gate old ≡ true) × (body_at n gate new ≡ body_at n gate old)) ⊎ (body_at n gate new ≡ body)

-- An image in which the twin has its old body or the new one, whole, and all else is as it might be before.
pub record Puts (dev at n : ℕ) (body : List ℕ) (seen : DeviceImages) (leaves : ℕ → List ℕ → Type 0) (img : DeviceImages) : Type 0 where
  pub others : LeavesOthers dev leaves img
  pub outside : AgreesOutside at (slots_len n) (seen dev) (img dev)
  pub whole : (chosen_body at n (img dev) ≡ chosen_body at n (seen dev)) ⊎ (chosen_body at n (img dev) ≡ Some body)
  -- each open slot is as it was, or has the body, and their numbers differ
  pub first : IsFrom at n body (seen dev) (img dev)
  pub second : IsFrom (at + n + 1) n body (seen dev) (img dev)
  pub differ : chosen_slot at n (img dev) ≢ Same
