use Rattle.sd_world.specs.Serving.{telling}
use Rattle.sd_world.proofs.Serving.{spared-passes, passes-spared}
use Rattle.sd_world.proofs.laws.calls.Goals as goal

pub returns-clause-spared : goal.returns-clause-spared
returns-clause-spared g c = spared-passes (telling g.G.Rig.seen g.G.Rig.leaves g.G.Rig.moment g.G.Rig.since g.G.Rig.faults) g.S.Standing.stands

pub returns-clause-sparing : goal.returns-clause-sparing
returns-clause-sparing g c = passes-spared (telling g.G.Rig.seen g.G.Rig.leaves g.G.Rig.moment g.G.Rig.since g.G.Rig.faults) g.S.Standing.stands
