-- The laws of the devices in memory, over their record.
use Rattle.std.specs.Prelude.{◌≡◌, ℕ, ◌≤◌, List, length, take}
use Rattle.std.proofs.Common.{sym, ap, ◌∙◌, subst, arith}
use Rattle.std.proofs.lemmas.List.{take_all}
use Rattle.sd_rig.specs.Devices.{AreBytes, DeviceImages, Leaves, device_len}
use Rattle.sd_rig.specs.Disk.{DiskState, MayLeave}
use Rattle.sd_rig.specs.History.{Event}
use Rattle.sd_rig.specs.Replay.{AreDevices, LeftSince, blanks, disk_at, left_of, replayed}

-- the record as it stands tells the devices
whole_record : (events : List Event) (disks : List DiskState) → disks ≡ replayed events blanks → replayed (take (length events) events) blanks ≡ disks
whole_record events disks told = ap (λ (es : List Event). replayed es blanks) (take_all (length events) events (omega arith)) ∙ sym told

pub left_now : (events : List Event) (disks : List DiskState) → disks ≡ replayed events blanks → (t : ℕ) (img : DeviceImages) → t ≤ length events → Leaves (left_of disks) img → LeftSince events t img
left_now events disks told t img le left = record {
  moment = length events;
  from = le;
  until = omega arith;
  left = subst (λ (ks : List DiskState). Leaves (left_of ks) img) (sym (whole_record events disks told)) left;
}

pub left_only_now : (events : List Event) (disks : List DiskState) → disks ≡ replayed events blanks → (img : DeviceImages) → LeftSince events (length events) img → Leaves (left_of disks) img
left_only_now events disks told img since =
    let from = since.from in
    let until = since.until in
    let end : since.moment ≡ length events = omega arith in
    subst (λ (ks : List DiskState). Leaves (left_of ks) img) (ap (λ n. replayed (take n events) blanks) end ∙ whole_record events disks told) since.left

pub left_earlier : (events : List Event) (t u : ℕ) (img : DeviceImages) → t ≤ u → LeftSince events u img → LeftSince events t img
left_earlier events t u img le since =
    let from = since.from in
    record { moment = since.moment; from = omega arith; until = since.until; left = since.left }

pub leaves_what_is_seen : (disks : List DiskState) → AreDevices disks → (dev : ℕ) → dev ≤ 8 → MayLeave (disk_at disks dev) (disk_at disks dev).seen
leaves_what_is_seen disks are dev le = record { size = sym (are.sound dev le).synced_len; stable = (are.sound dev le).same; are_bytes = (are.sound dev le).seen_bytes }

pub leaves_whole : (disks : List DiskState) → AreDevices disks → (dev : ℕ) (bytes : List ℕ) → dev ≤ 8 → MayLeave (disk_at disks dev) bytes → length bytes ≡ device_len dev
leaves_whole disks are dev bytes le left = left.size ∙ (are.sound dev le).synced_len ∙ are.lens dev le

pub leaves_bytes : (disks : List DiskState) (dev : ℕ) (bytes : List ℕ) → MayLeave (disk_at disks dev) bytes → AreBytes bytes
leaves_bytes disks dev bytes left = left.are_bytes
