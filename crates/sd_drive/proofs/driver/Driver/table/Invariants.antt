use Rattle.std.proofs.Common.{◌≡◌, ◌<◌}
use Rattle.sd_world.specs.Serving.{telling}
use Rattle.sd_drive.specs.Reaching.{DrivesLine, IsSame, ListsNext}
use Rattle.sd_drive.proofs.driver.Driver.table.Given as goal

-- the pages before this one are listed; behind the last one the line is done
abbrev pub invariant-loop-number : goal.invariant-loop-number
invariant-loop-number g l =
    record {
      more : l.number < l.fn.self.pages → ListsNext (telling g.G.Rig.seen g.G.Rig.leaves g.G.Rig.moment g.G.Rig.since g.G.Rig.faults) l.fn.self l.self l.line
          l.inst l.number;
      last : l.number ≡ l.fn.self.pages → DrivesLine (telling g.G.Rig.seen g.G.Rig.leaves g.G.Rig.moment g.G.Rig.since g.G.Rig.faults) l.fn.self l.self l.line;
      same : IsSame l.fn.self l.self;
      txns : l.self.txns ≡ l.fn.self.txns;
    }
