use Rattle.std.proofs.Common.{◌≡◌, map}
use Rattle.std.specs.List.{range_with_len}
use Rattle.sd_rig.specs.Devices.{device_len}
use Rattle.sd_rig.specs.Disk.{blank}
use Rattle.sd_rig.proofs.drives.blank_disks.Given as goal

abbrev pub invariant-loop-dev : goal.invariant-loop-dev
invariant-loop-dev l = l.disks.items ≡ map (λ dev. blank (device_len dev)) (range_with_len 0 l.dev)
