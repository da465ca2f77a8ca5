use Rattle.sd_world.specs.Serving.{Core, telling}
use Rattle.sd_hall.specs.Keeping.{Keeps}
use Rattle.sd_tests_events.proofs.runs.agreeing.Given as goal

abbrev pub invariant-loop-n : goal.invariant-loop-n
invariant-loop-n g l = (start : Core)
    × Keeps (telling g.G.Rig.seen g.G.Rig.leaves g.G.Rig.moment g.G.Rig.since g.G.Rig.faults) start l.hall
