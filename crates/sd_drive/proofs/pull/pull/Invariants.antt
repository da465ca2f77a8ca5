use Rattle.sd_world.specs.Serving.{telling}
use Rattle.sd_drive.specs.Bodies.{asks_in, entry_in}
use Rattle.sd_drive.specs.Driven.{PullsOn}
use Rattle.sd_drive.specs.Measure.{distance}
use Rattle.sd_drive.specs.Pulls.{Pull}
use Rattle.sd_drive.specs.Resting.{RestsOpen}
use Rattle.sd_drive.proofs.pull.pull.Given as goal

-- the page is asked for again, and recoveries go on
abbrev pub invariant-loop : goal.invariant-loop
invariant-loop g l =
    record {
      on : PullsOn (telling g.G.Rig.seen g.G.Rig.leaves g.G.Rig.moment g.G.Rig.since g.G.Rig.faults) l.fn.hall l.hall
          (record { inst = l.inst; mode = l.mode }) (Pull.Asks l.page) (Pull.Asks l.page) (λ old new. Unit {0});
      rests : RestsOpen l.fn.hall.body l.hall.body;
    }

-- each round brings the page nearer
abbrev pub decreases-loop : goal.decreases-loop
decreases-loop g l = distance l.inst l.mode l.page (entry_in l.hall.body) (asks_in l.hall.body l.page)
