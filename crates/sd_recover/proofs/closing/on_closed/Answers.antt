use Rattle.std.proofs.Common.{sym, subst}
use Rattle.std.specs.Prelude.{Some}
use Rattle.sd_model.specs.declared.event.Reply.TheVariants as reply
use Rattle.sd_world.specs.Serving.{Telling, telling}
use Rattle.sd_fits.specs.Bodies.{ServingHall}
use Rattle.sd_fits.specs.declared.body.Body.{Body}
use Rattle.sd_fits.proofs.Bodies.{arm-served, calm-unchanged, shut-served}
use Rattle.sd_recover.proofs.Shut.{shut-out}
use Rattle.sd_recover.proofs.closing.on_closed.Goals as goal

pub returns-in-Arm-clause-served : goal.returns-in-Arm-clause-served
returns-in-Arm-clause-served g c shape =
    let tell : Telling _ = telling g.G.Rig.seen g.G.Rig.leaves g.G.Rig.moment g.G.Rig.since g.G.Rig.faults in
    let old = c.args.rig.now in
    let new = c.arm.new.self in
    subst (λ e. ServingHall tell e (Some reply.Did) (Body.Closed old shape) (Body.Closed new shape)) (sym c.in-Arm.is)
    (arm-served tell c.in-Arm.trouble old new shape
    (calm-unchanged tell old new c.arm.ensures.stays (λ img since. g.met.G.Rig.only_now old img since)) c.arm.ensures.quiet)

pub returns-in_default-clause-served : goal.returns-in_default-clause-served
returns-in_default-clause-served g c shape =
    let tell : Telling _ = telling g.G.Rig.seen g.G.Rig.leaves g.G.Rig.moment g.G.Rig.since g.G.Rig.faults in
    let old = c.args.rig.now in
    shut-served tell c.args.e.now (shut-out c.args.e.now c.requires.done (λ trouble is. c.in_default.not-Arm trouble is)) old shape
    (λ img since. g.met.G.Rig.only_now old img since)
