-- What contracts see of a rig in memory.
use Rattle.std.specs.Prelude.{◌≡◌, ◌^◌, ℕ, List}
use Rattle.sd_base.specs.Streams.{Rises}
use Rattle.sd_base.specs.declared.trouble.Trouble.{Trouble}
use Rattle.sd_rig.specs.Disk.{DiskState}
use Rattle.sd_rig.specs.History.{Event}
use Rattle.sd_rig.specs.Replay.{Notes, NotesNothing, disk_at}
use Rattle.sd_rig.specs.declared.memory_rig.MemRig.{MemRig}

-- the nine devices
abbrev pub devices : MemRig → List DiskState
devices rig = rig.drives.disks.items

-- one of them
abbrev pub device : MemRig → ℕ → DiskState
device rig dev = disk_at (devices rig) dev

-- the record
abbrev pub done : MemRig → List Event
done rig = rig.drives.history.events

-- the memory that the record has to spare, in bytes: it takes none
abbrev pub spare : MemRig → ℕ
spare rig = 2 ^ 64

-- which of the coming calls fail
abbrev pub armed : MemRig → Trouble
armed rig = rig.trouble

-- how many calls failed
abbrev pub fault_count : MemRig → ℕ
fault_count rig = rig.faults

-- how many calls failed for want of memory for the record: none
abbrev pub short_count : MemRig → ℕ
short_count rig = 0

-- Nothing changed but what is armed, and the count of faults.
pub record KeepsAll (old new : MemRig) : Type 0 where
  pub devices_stay : devices new ≡ devices old
  pub record_stays : done new ≡ done old
  pub spare_stays : spare new ≡ spare old
  pub short_stays : short_count new ≡ short_count old

-- This event was noted and done.
abbrev pub Does : Event → MemRig → MemRig → Type 0
Does e old new = Notes e (done old) (done new) (devices old) (devices new)

-- There was no memory for the record: nothing was noted or done, and the count of such calls rose.
pub record Lacks (old new : MemRig) : Type 0 where
  pub nothing : NotesNothing (done old) (done new) (devices old) (devices new)
  pub counted : Rises (short_count old) (short_count new)
