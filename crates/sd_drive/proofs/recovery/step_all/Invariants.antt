use Rattle.sd_world.specs.Serving.{telling}
use Rattle.sd_drive.specs.Resting.{rounds_in}
use Rattle.sd_drive.proofs.Recovered.{InSteps}
use Rattle.sd_drive.proofs.recovery.step_all.Given as goal

-- a step is due
abbrev pub invariant-loop-next : goal.invariant-loop-next
invariant-loop-next g l =
    record { on : InSteps (telling g.G.Rig.seen g.G.Rig.leaves g.G.Rig.moment g.G.Rig.since g.G.Rig.faults) l.of l.inst l.fn.most l.left l.fn.hall l.hall }

-- each round leaves less to do
abbrev pub decreases-loop-next : goal.decreases-loop-next
decreases-loop-next g l = rounds_in g.G.Rig.seen l.hall.body l.inst
