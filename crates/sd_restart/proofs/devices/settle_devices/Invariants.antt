use Rattle.std.specs.Prelude.{◌≡◌, ℕ, ◌+◌, ◌<◌}
use Rattle.sd_rig.specs.Devices.{LeavesOnly}
use Rattle.sd_restart.specs.Devices.{Calms}
use Rattle.sd_restart.proofs.devices.settle_devices.Given as goal

abbrev pub invariant-loop-dev : goal.invariant-loop-dev
invariant-loop-dev g l =
    record {
      calms : Calms (g.G.Rig.seen l.fn.rig) (g.G.Rig.seen l.rig) (g.G.Rig.leaves l.fn.rig) (g.G.Rig.leaves l.rig)
          (g.G.Rig.moment l.fn.rig) (g.G.Rig.moment l.rig) (g.G.Rig.since l.fn.rig) (g.G.Rig.since l.rig);
      settled : (d : ℕ) → d < l.dev → LeavesOnly (g.G.Rig.seen l.fn.rig d) (g.G.Rig.leaves l.rig d);
      tick : g.G.Rig.moment l.rig ≡ g.G.Rig.moment l.fn.rig + l.dev;
      quiet : g.G.Rig.faults l.rig ≡ g.G.Rig.faults l.fn.rig;
    }
