-- What the first check that fails tells of devices.
use Rattle.std.specs.Prelude.{◌≡◌, ℕ}
use Rattle.sd_rig.specs.Devices.{DeviceImages}
use Rattle.sd_chain.specs.Faults.{FailsFirstAt}

-- it is told of one place alone
abbrev pub FailsAtOnePlace : Type 0
FailsAtOnePlace = (devices : DeviceImages) (dev at dev' at' : ℕ) → FailsFirstAt devices dev at → FailsFirstAt devices dev' at'
    → (dev ≡ dev') × (at ≡ at')
