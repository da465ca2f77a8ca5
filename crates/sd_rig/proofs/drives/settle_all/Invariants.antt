use Rattle.std.proofs.Common.{◌≡◌, ◌++◌, map, take, drop}
use Rattle.sd_rig.specs.Disk.{settled}
use Rattle.sd_rig.proofs.drives.settle_all.Given as goal

abbrev pub invariant-loop-i : goal.invariant-loop-i
invariant-loop-i l = l.disks ≡ map (settled l.pick) (take l.i l.fn.disks) ++ drop l.i l.fn.disks
