-- What a crash may leave of the devices while a log is forced.
use Rattle.std.specs.Prelude.{◌⊎◌, ℕ, ◌+◌, List}
use Rattle.sd_rig.specs.Devices.{AgreesOutside, DeviceImages}
use Rattle.sd_rig.specs.Gates.{LeavesOthers}
use Rattle.sd_log.specs.Logs.{LogState, StandsOn, forced, tail_len}

-- the bytes of its device that a force of the log may change
abbrev pub forced_at : LogState → ℕ
forced_at log = 130 + log.gate

abbrev pub forced_len : LogState → ℕ
forced_len log = 5 + tail_len log + 1

-- the log's groups stand on its device, with the tail as one more group or without it
abbrev pub StandsEither : LogState → List ℕ → Type 0
StandsEither log device = StandsOn log device ⊎ StandsOn (forced log) device

-- An image in which the log stands with its tail or without it, and all else is as it might be before.
pub record Forces (log : LogState) (seen : DeviceImages) (leaves : ℕ → List ℕ → Type 0) (img : DeviceImages) : Type 0 where
  pub others : LeavesOthers log.inst leaves img
  pub outside : AgreesOutside (forced_at log) (forced_len log) (seen log.inst) (img log.inst)
  pub whole : StandsEither log (img log.inst)
