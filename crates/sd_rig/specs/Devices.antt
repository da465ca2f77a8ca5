-- What the calls of a rig do to its devices, what a crash may leave of them, and what crashes since a moment may have left.
use Rattle.std.specs.Prelude.{◌≡◌, ◌⊎◌, ◌↔◌, ℕ, ◌+◌, ◌<◌, ◌≤◌, ◌==◌, List, ◌++◌, length, take, drop, if◌then◌else◌, All}

-- The bytes of each device, by its number: 0 is the data device, n the log of instance n.
abbrev pub DeviceImages : Type 0
DeviceImages = ℕ → List ℕ

-- in bytes
abbrev pub device_len : ℕ → ℕ
device_len dev = if dev == 0 then 2099200 else 2097282

-- Each is a byte.
abbrev pub AreBytes : List ℕ → Type 0
AreBytes bytes = All (λ b. b < 256) bytes

-- old with these bytes at this place
abbrev pub overwritten : ℕ → List ℕ → List ℕ → List ℕ
overwritten at bytes old = take at old ++ bytes ++ drop (at + length bytes) old

-- The same in length, and outside the n bytes at this place.
pub record AgreesOutside (at n : ℕ) (old new : List ℕ) : Type 0 where
  pub size : length new ≡ length old
  pub before : take at new ≡ take at old
  pub behind : drop (at + n) new ≡ drop (at + n) old

-- A crash may leave the same as before.
abbrev pub LeavesSame : (List ℕ → Type 0) → (List ℕ → Type 0) → Type 0
LeavesSame old new = (c : List ℕ) → new c ↔ old c

-- A crash may leave any n bytes at this place, and elsewhere what it might leave before.
abbrev pub LeavesTorn : ℕ → ℕ → (List ℕ → Type 0) → (List ℕ → Type 0) → Type 0
LeavesTorn at n old new = (c : List ℕ) → new c ↔ ((b : List ℕ) × old b × AgreesOutside at n b c × AreBytes c)

-- A crash may leave what it might leave before, and besides at most other bytes at these n places.
abbrev pub MayTear : ℕ → ℕ → (List ℕ → Type 0) → (List ℕ → Type 0) → Type 0
MayTear at n old new = (c : List ℕ) → (old c → new c) × (new c → (b : List ℕ) × old b × AgreesOutside at n b c)

-- A crash leaves exactly these bytes.
abbrev pub LeavesOnly : List ℕ → (List ℕ → Type 0) → Type 0
LeavesOnly bytes new = (c : List ℕ) → new c ↔ (c ≡ bytes)

-- A crash may leave this image: the devices are independent.
abbrev pub Leaves : (ℕ → List ℕ → Type 0) → DeviceImages → Type 0
Leaves leaves img = (dev : ℕ) → dev ≤ 8 → leaves dev (img dev)

-- Nothing that is told of the devices changes.
pub record IsUnchanged (seen seen' : DeviceImages) (leaves leaves' : ℕ → List ℕ → Type 0) (moment moment' : ℕ) (since since' : ℕ → DeviceImages → Type 0) : Type 0 where
  pub reads : (dev : ℕ) → seen' dev ≡ seen dev
  pub outcomes : (dev : ℕ) → LeavesSame (leaves dev) (leaves' dev)
  pub clock : moment' ≡ moment
  pub past : (t : ℕ) (img : DeviceImages) → since' t img ↔ since t img

-- Time goes on, by a call or several: what crashes since an earlier moment may have left is what it was, and what
-- crashes during these calls and after them may have left.
pub record Elapses (moment moment' : ℕ) (since since' : ℕ → DeviceImages → Type 0) : Type 0 where
  pub later : moment ≤ moment'
  pub splits : (t : ℕ) (img : DeviceImages) → t ≤ moment → since' t img → since t img ⊎ since' moment img
  pub keeps : (t : ℕ) (img : DeviceImages) → t ≤ moment → since t img → since' t img

-- A crash during one call leaves an image that one before it or one after it may leave.
abbrev pub IsOneStep : ℕ → (ℕ → DeviceImages → Type 0) → (ℕ → List ℕ → Type 0) → (ℕ → List ℕ → Type 0) → Type 0
IsOneStep moment since' leaves leaves' = (img : DeviceImages) → since' moment img → Leaves leaves img ⊎ Leaves leaves' img

-- Each image that crashes since that moment may have left has P.
pub record Span (moment : ℕ) (since : ℕ → DeviceImages → Type 0) (P : DeviceImages → Type 0) : Type 0 where
  pub each : (img : DeviceImages) → since moment img → P img
