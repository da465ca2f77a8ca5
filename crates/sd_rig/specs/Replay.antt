-- The devices in memory as their record tells them, and what crashes since a moment may have left.
use Rattle.std.specs.Prelude.{◌≡◌, ℕ, ◌≤◌, true, false, List, [], ◌∷◌, ◌++◌, length, take, set, get_or, map}
use Rattle.std.specs.List.{range_with_len}
use Rattle.sd_base.specs.declared.trouble.Pick.TheVariants.{Keep}
use Rattle.sd_rig.specs.Devices.{DeviceImages, Leaves, device_len}
use Rattle.sd_rig.specs.Disk.{DiskState, IsSettled, IsSound, MayLeave, blank, poked, settled, written}
use Rattle.sd_rig.specs.History.{Event, Crashed, Poked, Synced, Wrote}

-- the device of this number
abbrev pub disk_at : List DiskState → ℕ → DiskState
disk_at disks dev = get_or disks dev (record { seen = []; synced = []; pending = [] })

-- nine devices of zeros
unfoldable pub blanks : List DiskState
blanks = map (λ dev. blank (device_len dev)) (range_with_len 0 9)

-- the devices after an event
abbrev pub changed : Event → List DiskState → List DiskState
changed (Wrote dev at bytes ok) disks = set disks dev (written at bytes (disk_at disks dev))
changed (Synced dev true) disks = set disks dev (settled Keep (disk_at disks dev))
changed (Synced dev false) disks = disks
changed (Crashed pick) disks = map (settled pick) disks
changed (Poked dev at byte) disks = set disks dev (poked at byte (disk_at disks dev))

-- the devices after these events
abbrev pub replayed : List Event → List DiskState → List DiskState
replayed [] disks = disks
replayed (e ∷ events) disks = replayed events (changed e disks)

-- what a crash may leave of each device
abbrev pub left_of : List DiskState → ℕ → List ℕ → Type 0
left_of disks dev = MayLeave (disk_at disks dev)

-- A crash after some t events or more may have left this image.
pub record LeftSince (events : List Event) (t : ℕ) (img : DeviceImages) : Type 0 where
  pub moment : ℕ
  pub from : t ≤ moment
  pub until : moment ≤ length events
  pub left : Leaves (left_of (replayed (take moment events) blanks)) img

-- Nine devices of their lengths.
pub record AreDevices (disks : List DiskState) : Type 0 where
  pub count : length disks ≡ 9
  pub lens : (dev : ℕ) → dev ≤ 8 → length (disk_at disks dev).seen ≡ device_len dev
  pub sound : (dev : ℕ) → dev ≤ 8 → IsSound (disk_at disks dev)

-- No byte of them is pending.
abbrev pub AreSettled : List DiskState → Type 0
AreSettled disks = (dev : ℕ) → dev ≤ 8 → IsSettled (disk_at disks dev)

-- One more event, and the devices as it leaves them.
pub record Notes (e : Event) (events events' : List Event) (disks disks' : List DiskState) : Type 0 where
  pub event : events' ≡ events ++ e ∷ []
  pub made : disks' ≡ changed e disks

-- The record and the devices stay.
pub record NotesNothing (events events' : List Event) (disks disks' : List DiskState) : Type 0 where
  pub record_stays : events' ≡ events
  pub devices_stay : disks' ≡ disks
