use Rattle.sd_world.specs.Serving.{Telling, telling}
use Rattle.sd_drive.proofs.Risen.{reached-first}
use Rattle.sd_drive.proofs.driver.Driver.new.Goals as goal

pub returns-clause-reached : goal.returns-clause-reached
returns-clause-reached g c = λ start lines w risen.
    let tell : Telling g.row.G.Denot = telling g.G.Rig.seen g.G.Rig.leaves g.G.Rig.moment g.G.Rig.since g.G.Rig.faults in
    let parts = c.into_parts-hall.ensures in
    reached-first tell c.args.rise _ parts.hall parts.insts parts.pages c.new.ensures.items start lines w risen
