use Rattle.std.proofs.Common.{◌≤◌, length}
use Rattle.sd_world.specs.Serving.{telling}
use Rattle.sd_drive.specs.Driving.{World}
use Rattle.sd_drive.specs.Reaching.{IsSame, Reached}
use Rattle.sd_drive.proofs.driver.Driver.replay.Given as goal
use Rattle.sd_drive.specs.Running.{Start}

-- the lines before this one are done, wherever the driver began
abbrev pub invariant-loop-line : goal.invariant-loop-line
invariant-loop-line g l =
    record {
      on : (start : Start g.row.G.Denot) (w : World) → Reached (telling g.G.Rig.seen g.G.Rig.leaves g.G.Rig.moment g.G.Rig.since g.G.Rig.faults) start l.lines 0 l.fn.self w
          → (w' : World) × Reached (telling g.G.Rig.seen g.G.Rig.leaves g.G.Rig.moment g.G.Rig.since g.G.Rig.faults) start l.lines l.line-index l.self w';
      same : IsSame l.fn.self l.self;
      within : l.line-index ≤ length l.lines;
    }
