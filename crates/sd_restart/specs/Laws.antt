-- What devices that stand for a state of the serial table open to.
use Rattle.std.specs.Prelude.{◌≡◌, ℕ, ◌<◌, List}
use Rattle.sd_base.specs.declared.ids.Rid.{Rid}
use Rattle.sd_model.specs.State.{State}
use Rattle.sd_model.specs.Tables.{contents}
use Rattle.sd_rig.specs.Devices.{DeviceImages}
use Rattle.sd_chain.specs.Bytes.{stable}
use Rattle.sd_chain.specs.Checks.{DevicesAreSound}
use Rattle.sd_recovered.specs.Devices.{IsRecovered}
use Rattle.sd_state.specs.Images.{Stands}
use Rattle.sd_state.specs.Values.{Pending, values}

-- they are sound
abbrev pub StandingAreSound : Type 0
StandingAreSound = (devices : DeviceImages) (m : State) → Stands m Pending.Idle devices → DevicesAreSound devices

-- Each record of their table is what the committed transactions left, with those of the transactions in doubt whose Commit is kept.
abbrev pub StandingOpen : Type 0
StandingOpen = (devices : DeviceImages) (m : State) (table : List (Rid × List ℕ)) → Stands m Pending.Idle devices → IsRecovered devices table
    → (p s : ℕ) → p < 1024 → contents table (record { page = p; slot = s }) ≡ values m Pending.Idle (stable devices).logs p s
