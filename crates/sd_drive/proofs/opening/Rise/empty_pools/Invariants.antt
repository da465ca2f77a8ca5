use Rattle.std.proofs.Common.{◌+◌, ◌≤◌}
use Rattle.sd_world.specs.Serving.{telling}
use Rattle.sd_drive.specs.Emptying.{OpensTo, pools_from}
use Rattle.sd_drive.specs.Rising.{IsSame}
use Rattle.sd_drive.proofs.opening.Rise.empty_pools.Given as goal

-- the pools of the instances before this one have been emptied
abbrev pub invariant-loop-number : goal.invariant-loop-number
invariant-loop-number g l =
    record {
      on : OpensTo (telling g.G.Rig.seen g.G.Rig.leaves g.G.Rig.moment g.G.Rig.since g.G.Rig.faults) l.fn.self l.self (pools_from 1) (pools_from (l.number + 1));
      within : l.number ≤ 8;
      same : IsSame l.fn.self l.self;
    }
