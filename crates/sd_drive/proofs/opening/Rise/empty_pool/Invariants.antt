use Rattle.std.proofs.Common.{◌≤◌}
use Rattle.sd_world.specs.Serving.{telling}
use Rattle.sd_drive.specs.Emptying.{OpensTo, copies_from, pools_from}
use Rattle.sd_drive.specs.Rising.{IsSame}
use Rattle.sd_drive.proofs.opening.Rise.empty_pool.Given as goal

-- the pages before this one have had their turn
abbrev pub invariant-loop-number : goal.invariant-loop-number
invariant-loop-number g l =
    record {
      on : OpensTo (telling g.G.Rig.seen g.G.Rig.leaves g.G.Rig.moment g.G.Rig.since g.G.Rig.faults) l.fn.self l.self (pools_from l.fn.inst) (copies_from l.fn.inst l.number);
      within : l.number ≤ 1024;
      same : IsSame l.fn.self l.self;
    }
