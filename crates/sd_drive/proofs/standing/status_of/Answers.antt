use Rattle.std.proofs.Common.{sym, ap, ◌∙◌}
use Rattle.sd_world.specs.Serving.{Telling, telling}
use Rattle.sd_drive.specs.Bodies.{status_in}
use Rattle.sd_drive.proofs.Bodies.{open-is, open-shape, shut-status}
use Rattle.sd_drive.proofs.standing.status_of.Goals as goal

pub status-requires : goal.status-requires
status-requires g c =
    let tell : Telling _ = telling g.G.Rig.seen g.G.Rig.leaves g.G.Rig.moment g.G.Rig.since g.G.Rig.faults in
    let f = c.requires.fits in open-shape tell c.args.hall.now.body c.in-Some.c.now c.in-Some.ensures f.0 f.1

pub returns-in-Some : goal.returns-in-Some
returns-in-Some g c =
    let tell : Telling _ = telling g.G.Rig.seen g.G.Rig.leaves g.G.Rig.moment g.G.Rig.since g.G.Rig.faults in
    c.status.ensures ∙ sym (ap (λ b. status_in b c.args.inst) (open-is tell c.args.hall.now.body c.in-Some.c.now c.in-Some.ensures))

pub returns-in-None : goal.returns-in-None
returns-in-None g c =
    let tell : Telling _ = telling g.G.Rig.seen g.G.Rig.leaves g.G.Rig.moment g.G.Rig.since g.G.Rig.faults in
    shut-status tell c.args.hall.now.body c.in-None.ensures c.args.inst
