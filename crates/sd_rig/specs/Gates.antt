-- What a crash may leave of the devices while bytes are written, and while a gate is closed or filled behind and opened.
use Rattle.std.specs.Prelude.{◌≡◌, ◌≢◌, ◌⊎◌, ℕ, ◌+◌, ◌≤◌, true, false, List}
use Rattle.sd_base.specs.Twin.{body_at, is_open}
use Rattle.sd_rig.specs.Devices.{AgreesOutside, DeviceImages}

-- Each other device is left as it might be before.
abbrev pub LeavesOthers : ℕ → (ℕ → List ℕ → Type 0) → DeviceImages → Type 0
LeavesOthers dev leaves img = (d : ℕ) → d ≤ 8 → d ≢ dev → leaves d (img d)

-- An image in which n bytes at this place of a device may be any.
pub record Writes (dev at n : ℕ) (seen : DeviceImages) (leaves : ℕ → List ℕ → Type 0) (img : DeviceImages) : Type 0 where
  pub others : LeavesOthers dev leaves img
  pub outside : AgreesOutside at n (seen dev) (img dev)

-- An image in which only this gate differs, and isn't open where it was closed.
pub record Closes (dev gate : ℕ) (seen : DeviceImages) (leaves : ℕ → List ℕ → Type 0) (img : DeviceImages) : Type 0 where
  pub others : LeavesOthers dev leaves img
  pub outside : AgreesOutside gate 1 (seen dev) (img dev)
  pub shut : is_open gate (img dev) ≡ true → is_open gate (seen dev) ≡ true

-- An image in which the gate at this place is closed, or this body stands behind it, whole.
pub record Fills (dev gate n : ℕ) (body : List ℕ) (seen : DeviceImages) (leaves : ℕ → List ℕ → Type 0) (img : DeviceImages) : Type 0 where
  pub others : LeavesOthers dev leaves img
  pub outside : AgreesOutside gate (n + 1) (seen dev) (img dev)
  pub whole : (is_open gate (img dev) ≡ false) ⊎ (body_at n gate (img dev) ≡ body)
