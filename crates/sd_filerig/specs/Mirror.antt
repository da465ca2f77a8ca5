-- What contracts see of a rig over files.
use Rattle.std.specs.Prelude.{ℕ, ◌≤◌}
use Rattle.sd_rig.specs.Devices.{LeavesOnly}
use Rattle.sd_rig.specs.Replay.{left_of}
use Rattle.sd_rig.specs.Rigs.{device, devices}
use Rattle.sd_rig.specs.declared.memory_rig.MemRig.{MemRig}
use Rattle.sd_filerig.specs.declared.file_rig.FileRig.{FileRig}

-- the devices in memory that mirror the files
abbrev pub mirror : FileRig → MemRig
mirror rig = rig.memory

-- A crash leaves of each device what it reads.
abbrev pub IsStable : MemRig → Type 0
IsStable memory = (d : ℕ) → d ≤ 8 → LeavesOnly (device memory d).seen (left_of (devices memory) d)
