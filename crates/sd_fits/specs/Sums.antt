-- What the world's sums say of the nine devices as a crash leaves them.
use Rattle.std.specs.Prelude.{ℕ, ◌+◌, ◌<◌, ◌≤◌}
use Rattle.sd_logrec.specs.Kept.{kept, master}
use Rattle.sd_rig.specs.Devices as rig
use Rattle.sd_chain.specs.Bytes.{disk_page, log_of, stable}
use Rattle.sd_chain.specs.Checks.{gate_of, owed_by_all, reserve}
use Rattle.sd_chain.specs.Storage.{newest}
use Rattle.sd_chain.specs.Records.{Each}
use Rattle.sd_chain.specs.Logs.{Outcomes}
use Rattle.sd_world.specs.Bounds.{Bounds}
use Rattle.sd_world.specs.Serving.{Core}
use Rattle.sd_state.specs.Parts.{Parts}
use Rattle.sd_fits.specs.Fits.{AreAtLeast, AreWithin, Fits, capacities}

-- no LSN of these devices, with the records that are owed, is above n
pub record HaveLsnsTo (n : ℕ) (devices : rig.DeviceImages) : Type 0 where
  pub owed : owed_by_all devices ≤ n
  pub logs : (j : ℕ) → Each (λ x. x.lsn + owed_by_all devices ≤ n) (log_of devices j)
  pub pages : (p : ℕ) → p < 1024 → (disk_page (devices 0) p).lsn + owed_by_all devices ≤ n

-- The slots of each page's newest version, each log with what it reserves, all LSNs, and the counts of masters are within the
-- sums, and those slots aren't below what they have at least.
pub record IsWithinSums (devices : rig.DeviceImages) (b : Bounds) : Type 0 where
  pub slots : (p : ℕ) → AreWithin (capacities (newest (stable devices) p)) (b.slots p)
  pub least : (p : ℕ) → AreAtLeast (capacities (newest (stable devices) p)) (b.least p)
  pub reach : (i : ℕ) → 1 ≤ i → i ≤ 8 → gate_of (kept (devices i)) + reserve (log_of devices i) ≤ b.reach i
  pub lsns : HaveLsnsTo b.lsns devices
  pub masters : (i : ℕ) → 1 ≤ i → i ≤ 8 → (master (devices i)).count ≤ b.masters i

-- Whatever a crash leaves of a complex that fits is within the world's sums.
abbrev pub LeftIsWithinSums : Outcomes → Type 0
LeftIsWithinSums leaves = (seen img : rig.DeviceImages) (c : Parts) (w : Core) → Fits seen leaves c w → rig.Leaves leaves img
    → IsWithinSums img w.bounds
