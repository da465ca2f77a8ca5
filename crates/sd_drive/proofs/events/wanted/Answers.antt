use Rattle.std.proofs.Common.{sym, subst}
use Rattle.std.specs.Prelude.{Some}
use Rattle.sd_fits.specs.declared.body.Body.{Body}
use Rattle.sd_model.specs.declared.event.Reply.{Reply}
use Rattle.sd_model.specs.Step.{Step}
use Rattle.sd_world.specs.Serving.{Telling, telling}
use Rattle.sd_drive.specs.Standing.{Wants}
use Rattle.sd_drive.proofs.Acts.{need-open}
use Rattle.sd_drive.proofs.Bodies.{open-is, open-shape, shut-is}
use Rattle.sd_drive.proofs.Needs.{need-is}
use Rattle.sd_drive.proofs.events.wanted.Goals as goal

pub need-requires : goal.need-requires
need-requires g c =
    let tell : Telling _ = telling g.G.Rig.seen g.G.Rig.leaves g.G.Rig.moment g.G.Rig.since g.G.Rig.faults in
    let f = c.requires.fits in record { shape = open-shape tell c.args.hall.now.body c.in-Some.c.now c.in-Some.ensures f.0 f.1 }

pub returns-in-Some : goal.returns-in-Some
returns-in-Some g c =
    let tell : Telling _ = telling g.G.Rig.seen g.G.Rig.leaves g.G.Rig.moment g.G.Rig.since g.G.Rig.faults in
    let h = need-is c.args.entry.now.reply c.requires.wants in
    let is = open-is tell c.args.hall.now.body c.in-Some.c.now c.in-Some.ensures in
    subst (λ b. Wants tell b c.args.entry.now.event c.args.entry.now.reply c.need.result) (sym is)
    (subst (λ (r : Reply). Wants tell (Some (Body.Open c.in-Some.c.now)) c.args.entry.now.event r c.need.result) (sym h.1) (c.need.ensures h.0))

pub returns-in-None : goal.returns-in-None
returns-in-None g c = λ w w' turns fits.
    let tell : Telling _ = telling g.G.Rig.seen g.G.Rig.leaves g.G.Rig.moment g.G.Rig.since g.G.Rig.faults in
    let h = need-is c.args.entry.now.reply c.requires.wants in
    let e = c.args.entry.now.event in
    absurd (need-open w.scene.state w'.scene.state e h.0
    (subst (λ (r : Reply). Step w.scene.state e r w'.scene.state) h.1 turns.plays.step)
    (shut-is tell c.args.hall.now.body c.in-None.ensures w' fits 1))
