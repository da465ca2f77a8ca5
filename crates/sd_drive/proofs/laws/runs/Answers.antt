use Rattle.sd_world.specs.Serving.{telling}
use Rattle.sd_drive.proofs.Ways.{runs-way}
use Rattle.sd_drive.proofs.laws.runs.Goals as goal

pub returns : goal.returns
returns g c = record { way = runs-way (telling g.G.Rig.seen g.G.Rig.leaves g.G.Rig.moment g.G.Rig.since g.G.Rig.faults) }
