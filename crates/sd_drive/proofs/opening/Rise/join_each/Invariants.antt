use Rattle.std.proofs.Common.{◌+◌}
use Rattle.sd_world.specs.Serving.{telling}
use Rattle.sd_drive.specs.Rising.{IsSame}
use Rattle.sd_drive.proofs.Openings.{InJoins}
use Rattle.sd_drive.proofs.opening.Rise.join_each.Given as goal

-- the instances before this one have joined
abbrev pub invariant-loop-number : goal.invariant-loop-number
invariant-loop-number g l =
    record {
      on : InJoins (telling g.G.Rig.seen g.G.Rig.leaves g.G.Rig.moment g.G.Rig.since g.G.Rig.faults) l.fn.self l.self (l.number + 1);
      same : IsSame l.fn.self l.self;
    }
