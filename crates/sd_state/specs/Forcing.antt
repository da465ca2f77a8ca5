-- A log that is forced, and one whose force failed.
use Rattle.std.specs.Prelude.{◌≡◌, ◌≢◌, ℕ, ◌-◌, ◌^◌, ◌≤◌, max, min, true, List, Some, slice_set, ◌⊎◌, None}
use Rattle.sd_logrec.specs.Kept.{master}
use Rattle.sd_log.specs.Logs.{LogState, StandsOn, forced}
use Rattle.sd_log.specs.Forces.{StandsEither, forced_at, forced_len}
use Rattle.sd_rig.specs.Devices as rig
use Rattle.sd_rig.specs.Devices.{AgreesOutside, LeavesOnly, LeavesSame}
use Rattle.sd_chain.specs.Logs.{Outcomes}
use Rattle.sd_base.specs.declared.place.Status.{Status}
use Rattle.sd_base.specs.declared.place.Status.TheVariants as S
use Rattle.sd_txn.specs.Owing.{owed_of}
use Rattle.sd_state.specs.Parts.{Parts, owed_at, status_at, txns_at}

-- log i is this one, and owes so many records as it is forced
abbrev pub with_forced : ℕ → LogState → ℕ → Parts → Parts
with_forced i log owes c = record c { logs = slice_set c.logs (i - 1) log; owed = slice_set c.owed (i - 1) owes }

-- log i is this one, and no fall is due
abbrev pub with_settled : ℕ → LogState → ℕ → Parts → Parts
with_settled i log owes c = record (with_forced i log owes c) { due = None }

-- No fall is due, or that of the instance which recovers i, by log i.
abbrev pub ForcesNow : ℕ → Parts → Type 0
ForcesNow i c = (c.due ≡ None) ⊎ ((a : ℕ) × (status_at c i ≡ S.Recovering a) × (c.due ≡ Some (a, i)))

-- what log i owes once all of it is forced: what its table says, where that tells of the log, or what it owed
abbrev pub owed_as : Status → ℕ → ℕ → ℕ
owed_as S.Up told was = told
owed_as S.Down told was = was
owed_as (S.Recovering by) told was = told
owed_as S.Clean told was = told
owed_as S.Restarting told was = told
owed_as S.Closed told was = was

abbrev pub owed_by : Parts → ℕ → ℕ
owed_by c i = owed_as (status_at c i) (min (owed_of (txns_at c i)) (2 ^ 64 - 1)) (owed_at c i)

-- what log i owes with its tail or without it, whichever is more
abbrev pub owed_either : Parts → ℕ → ℕ
owed_either c i = max (owed_at c i) (owed_by c i)

-- log i isn't settled, and owes what it owes either way; instance a is to fall by it
abbrev pub with_failed : ℕ → ℕ → Parts → Parts
with_failed a i c =
    record c { loose = slice_set c.loose i true; owed = slice_set c.owed (i - 1) (owed_either c i); due = Some (a, i) }

-- The log's tail stands on device i with its groups, and a crash leaves it there; all else of the devices is as before.
pub record IsForced (i : ℕ) (log : LogState) (seen seen' : rig.DeviceImages) (leaves leaves' : Outcomes) : Type 0 where
  pub outside : AgreesOutside (forced_at log) (forced_len log) (seen i) (seen' i)
  pub stands : StandsOn (forced log) (seen' i)
  pub durable : LeavesOnly (seen' i) (leaves' i)
  pub others : (d : ℕ) → d ≢ i → seen' d ≡ seen d
  pub others_leave : (d : ℕ) → d ≢ i → LeavesSame (leaves d) (leaves' d)

-- The log stands on device i with its tail or without it, however it is left; all else of the devices is as before.
pub record IsHalfForced (i : ℕ) (log : LogState) (seen seen' : rig.DeviceImages) (leaves leaves' : Outcomes) : Type 0 where
  pub outside : (bytes : List ℕ) → leaves' i bytes → AgreesOutside (forced_at log) (forced_len log) (seen i) bytes
  pub either : (bytes : List ℕ) → leaves' i bytes → StandsEither log bytes
  pub others : (d : ℕ) → d ≢ i → seen' d ≡ seen d
  pub others_leave : (d : ℕ) → d ≢ i → LeavesSame (leaves d) (leaves' d)

-- Each log's master that may be left is one that might be left before.
abbrev pub KeepMasters : Outcomes → Outcomes → Type 0
KeepMasters old new = (j : ℕ) → 1 ≤ j → (bytes : List ℕ) → new j bytes → (was : List ℕ) × old j was × (master bytes ≡ master was)
