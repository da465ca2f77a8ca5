use Rattle.std.specs.Prelude.{◌≡◌, length, take}
use Rattle.sd_recovered.specs.Devices.{log_devices}
use Rattle.sd_recovered.specs.Reading.{HasRead}
use Rattle.sd_rig.specs.Devices.{IsUnchanged}
use Rattle.sd_restart.specs.Devices.{images_of}
use Rattle.sd_restart.proofs.devices.read_logs.Given as goal

abbrev pub invariant-loop-i : goal.invariant-loop-i
invariant-loop-i g l =
    record {
      read : HasRead (take l.i (log_devices (images_of (g.G.Rig.seen l.fn.rig)))) l.logs;
      stays : IsUnchanged (g.G.Rig.seen l.fn.rig) (g.G.Rig.seen l.rig) (g.G.Rig.leaves l.fn.rig) (g.G.Rig.leaves l.rig)
          (g.G.Rig.moment l.fn.rig) (g.G.Rig.moment l.rig) (g.G.Rig.since l.fn.rig) (g.G.Rig.since l.rig);
      quiet : g.G.Rig.faults l.rig ≡ g.G.Rig.faults l.fn.rig;
      size : length l.bytes ≡ 2097282;
    }
