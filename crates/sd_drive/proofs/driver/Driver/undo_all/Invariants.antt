use Rattle.sd_world.specs.Serving.{telling}
use Rattle.sd_drive.specs.Reaching.{IsSame, open_records}
use Rattle.sd_drive.proofs.Undoing.{IsAt}
use Rattle.sd_drive.proofs.driver.Driver.undo_all.Given as goal

-- the rollback goes on
abbrev pub invariant-loop : goal.invariant-loop
invariant-loop g l =
    record {
      on : IsAt (telling g.G.Rig.seen g.G.Rig.leaves g.G.Rig.moment g.G.Rig.since g.G.Rig.faults) l.line l.txn l.fn.self l.self;
      same : IsSame l.fn.self l.self;
    }

-- an undo that isn't the last leaves a record less that is open
abbrev pub decreases-loop : goal.decreases-loop
decreases-loop g l = open_records l.self l.txn
