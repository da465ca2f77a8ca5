use Rattle.std.proofs.Common.{◌+◌, ◌≤◌}
use Rattle.sd_world.specs.Serving.{telling}
use Rattle.sd_drive.specs.Rising.{IsSame}
use Rattle.sd_drive.specs.Restarting.{Restarts}
use Rattle.sd_drive.proofs.opening.Rise.restart_all.Given as goal

-- the instances before this one have been looked at
abbrev pub invariant-loop-number : goal.invariant-loop-number
invariant-loop-number g l =
    record {
      on : Restarts (telling g.G.Rig.seen g.G.Rig.leaves g.G.Rig.moment g.G.Rig.since g.G.Rig.faults) l.fn.self l.self 1 (l.number + 1);
      within : l.number ≤ 8;
      same : IsSame l.fn.self l.self;
    }
