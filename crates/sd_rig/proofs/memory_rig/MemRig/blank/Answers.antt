use Rattle.std.proofs.Common.{◌≡◌, ◌<◌, ℕ, List, get_or, length, ap, ◌∙◌, sym, subst}
use Rattle.sd_rig.specs.Devices.{device_len}
use Rattle.sd_rig.specs.Disk.{DiskState, copies, length-copies}
use Rattle.sd_rig.specs.Replay.{AreSettled, disk_at}
use Rattle.sd_rig.proofs.Facts.{crash-durable}
use Rattle.sd_rig.proofs.Places.{get_or-copies}
use Rattle.sd_rig.proofs.Replays.{blank_at, settled-blanks}
use Rattle.sd_rig.proofs.memory_rig.MemRig.blank.Goals as goal

pub returns-clause-devices : goal.returns-clause-devices
returns-clause-devices c d h = ap (λ (ks : List DiskState). disk_at ks d) c.in_ok-blank.ensures.disks ∙ blank_at d h

pub returns-clause-zeros : goal.returns-clause-zeros
returns-clause-zeros c d h k e lt =
    let made : (disk_at c.in_ok-blank.field-0.disks.items d).seen ≡ copies (device_len d) 0 = ap (λ (ks : List DiskState). (disk_at ks d).seen) c.in_ok-blank.ensures.disks ∙ ap (λ (j : DiskState). j.seen) (blank_at d h) in
    let within : k < device_len d = subst (λ n. k < n) (ap length made ∙ length-copies (device_len d) 0) lt in
    ap (λ (bytes : List ℕ). get_or bytes k e) made ∙ get_or-copies (device_len d) k 0 e within

pub returns-clause-durable : goal.returns-clause-durable
returns-clause-durable c = crash-durable c.in_ok-blank.field-0.disks.items c.in_ok-blank.field-0.devices (subst AreSettled (sym c.in_ok-blank.ensures.disks) settled-blanks)
