use Rattle.sd_world.specs.Serving.{Telling, telling}
use Rattle.sd_fits.proofs.Bodies.{calm-crash}
use Rattle.sd_recover.proofs.closing.crashed.Goals as goal

pub returns-clause-calm : goal.returns-clause-calm
returns-clause-calm g c =
    let tell : Telling _ = telling g.G.Rig.seen g.G.Rig.leaves g.G.Rig.moment g.G.Rig.since g.G.Rig.faults in
    calm-crash tell c.args.rig c.crash.new.self c.crash.ensures.none_more c.crash.ensures.time c.crash.ensures.step
