use Rattle.std.proofs.Common.{sym, subst}
use Rattle.sd_rig.specs.Replay.{AreDevices}
use Rattle.sd_rig.proofs.Replays.{devices-blanks}
use Rattle.sd_rig.proofs.drives.Drives.blank.Goals as goal

pub invariant_of-result : goal.invariant_of-result
invariant_of-result c =
    let made = c.in_ok-disks.ensures in
    record {
      devices = subst AreDevices (sym made) devices-blanks;
      told = rw c.new-history.ensures made;
    }
