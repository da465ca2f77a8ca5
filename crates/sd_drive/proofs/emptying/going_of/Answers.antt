use Rattle.std.proofs.Common.{sym, ap, ◌∙◌}
use Rattle.sd_world.specs.Serving.{Telling, telling}
use Rattle.sd_drive.specs.Bodies.{entry_in, status_in}
use Rattle.sd_drive.specs.Going.{going_as}
use Rattle.sd_drive.proofs.Bodies.{open-is, open-shape}
use Rattle.sd_drive.proofs.Pools.{shut-stays}
use Rattle.sd_drive.proofs.emptying.going_of.Goals as goal

pub going_in-requires : goal.going_in-requires
going_in-requires g c =
    let tell : Telling g.row.G.Denot = telling g.G.Rig.seen g.G.Rig.leaves g.G.Rig.moment g.G.Rig.since g.G.Rig.faults in
    let f = c.requires.fits in record { shape = open-shape tell c.args.hall.now.body c.in-Some.c.now c.in-Some.ensures f.0 f.1 }

pub returns-in-Some : goal.returns-in-Some
returns-in-Some g c =
    let tell : Telling g.row.G.Denot = telling g.G.Rig.seen g.G.Rig.leaves g.G.Rig.moment g.G.Rig.since g.G.Rig.faults in
    c.going_in.ensures ∙ sym (ap (λ b. going_as (status_in b c.args.inst) (entry_in b c.args.page) c.args.inst)
    (open-is tell c.args.hall.now.body c.in-Some.c.now c.in-Some.ensures))

pub returns-in-None : goal.returns-in-None
returns-in-None g c =
    let tell : Telling g.row.G.Denot = telling g.G.Rig.seen g.G.Rig.leaves g.G.Rig.moment g.G.Rig.since g.G.Rig.faults in
    shut-stays tell c.args.hall.now.body c.in-None.ensures c.args.inst c.args.page
