-- What the settling of a device or a rebuild leaves that is refused.
use Rattle.std.specs.Prelude.{◌≡◌, ◌⊎◌, ℕ}
use Rattle.sd_base.specs.declared.refusal.Refusal.{Refusal}
use Rattle.sd_base.specs.declared.refusal.Refusal.TheVariants as R
use Rattle.sd_rig.specs.Devices.{DeviceImages}
use Rattle.sd_chain.specs.Logs.{Outcomes}
use Rattle.sd_state.specs.Parts.{Parts}
use Rattle.sd_fits.specs.Untouched.{FallTouches, none_of, only}
use Rattle.sd_recover.specs.Recovering.{HasOnlyRead}

-- Without memory nothing changes. Where a device failed, which may be this one, the recoverer fell, or only read.
abbrev pub LeavesLost : DeviceImages → Outcomes → ℕ → Refusal → ℕ → Parts → Parts → Type 0
LeavesLost seen leaves dev R.Memory by old new = new ≡ old
LeavesLost seen leaves dev R.Failed by old new = FallTouches by (only dev) none_of old new ⊎ HasOnlyRead seen leaves old new
LeavesLost seen leaves dev n by old new = ⊥
