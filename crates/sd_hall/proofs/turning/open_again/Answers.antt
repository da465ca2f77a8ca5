use Rattle.std.proofs.Common.{Option, Some, refl, sym, ◌∙◌, subst, arith}
use Rattle.sd_base.specs.declared.refusal.Refusal.TheVariants as R
use Rattle.sd_model.specs.declared.event.Event.TheVariants.{Reopen}
use Rattle.sd_model.specs.declared.event.Reply.{Reply}
use Rattle.sd_model.specs.declared.event.Reply.TheVariants as reply
use Rattle.sd_state.specs.Complexes.{parts}
use Rattle.sd_state.specs.Parts.{status_at}
use Rattle.sd_world.specs.Serving.{Telling, refused, telling}
use Rattle.sd_fits.specs.Bodies.{ServingHall, fits_body}
use Rattle.sd_fits.specs.declared.body.Body.{Body}
use Rattle.sd_fits.proofs.Bodies.{open-served, opened-refused, reopened-served}
use Rattle.sd_hall.proofs.Found.{finds, none-did, not-did}
use Rattle.sd_hall.proofs.Opening.{leaves-less, left-so, opened-on, stays-closed}
use Rattle.sd_hall.proofs.turning.open_again.Goals as goal

pub returns-in-Open-clause-served : goal.returns-in-Open-clause-served
returns-in-Open-clause-served g c =
    let tell : Telling _ = telling g.G.Rig.seen g.G.Rig.leaves g.G.Rig.moment g.G.Rig.since g.G.Rig.faults in
    let x = c.in-Open.complex in
    let status = status_at (parts x) 1 in
    subst (λ b. ServingHall tell Reopen (Some c.not_down.result) b (Body.Open x)) (sym c.in-Open.is)
    (subst (λ (r : Reply). ServingHall tell Reopen (Some r) (Body.Open x) (Body.Open x)) (sym c.not_down.ensures)
    (open-served tell Reopen (Some (reply.Refused (R.NotDown status))) x x
    (opened-refused tell x status refl (λ img since. g.met.G.Rig.only_now x.rig img since))))

pub returns-in-Ok-clause-served : goal.returns-in-Ok-clause-served
returns-in-Ok-clause-served g c =
    let tell : Telling _ = telling g.G.Rig.seen g.G.Rig.leaves g.G.Rig.moment g.G.Rig.since g.G.Rig.faults in
    let old = c.in-Closed.rig in
    let shape = c.in-Closed.shape in
    let x = c.in-Ok.complex in
    let k = c.in-Ok.ensures in
    let size = g.met.G.Rig.whole old 0 (g.G.Rig.seen old 0) (omega arith) (g.met.G.Rig.leaves_seen old 0 (omega arith)) in
    subst (λ b. ServingHall tell Reopen (Some reply.Did) b (Body.Open x)) (sym c.in-Closed.is)
    (reopened-served tell old x shape (leaves-less tell old x.rig k.calms)
    (left-so tell old x.rig k.calms (λ d le. g.met.G.Rig.leaves_seen old d le))
    (opened-on tell old x.rig k.calms shape.frames (parts x) size k.settled k.opened) k.quiet)

pub returns-in-Err-clause-served : goal.returns-in-Err-clause-served
returns-in-Err-clause-served g c =
    let tell : Telling _ = telling g.G.Rig.seen g.G.Rig.leaves g.G.Rig.moment g.G.Rig.since g.G.Rig.faults in
    let old = c.in-Closed.rig in
    let new = c.in-Err.rig in
    let shape = c.in-Closed.shape in
    let k = c.in-Err.ensures in
    let fits = subst (λ b. fits_body g.G.Rig.seen g.G.Rig.leaves b c.requires.fits.0) c.in-Closed.is c.requires.fits.1 in
    subst (λ (a : Option Reply). ServingHall tell Reopen a c.args.body (Body.Closed new shape)) (sym c.as_refused.ensures)
    (subst (λ b. ServingHall tell Reopen (refused c.in-Err.refusal) b (Body.Closed new shape)) (sym c.in-Closed.is)
    (stays-closed tell old new k.calms_err shape c.requires.fits.0 fits (λ d le. g.met.G.Rig.leaves_seen old d le) c.in-Err.refusal
    k.refusals k.unsound k.cause k.quiet_err))

-- ---- what is found

pub returns-in-Open-clause-reopens : goal.returns-in-Open-clause-reopens
returns-in-Open-clause-reopens g c = λ is did. absurd (not-did _ c.not_down.result c.not_down.ensures did)

pub returns-in-Ok-clause-reopens : goal.returns-in-Ok-clause-reopens
returns-in-Ok-clause-reopens g c = λ is did.
    let tell : Telling _ = telling g.G.Rig.seen g.G.Rig.leaves g.G.Rig.moment g.G.Rig.since g.G.Rig.faults in
    let old = c.in-Closed.rig in
    let x = c.in-Ok.complex in
    let k = c.in-Ok.ensures in
    let size = g.met.G.Rig.whole old 0 (g.G.Rig.seen old 0) (omega arith) (g.met.G.Rig.leaves_seen old 0 (omega arith)) in
    finds g.G.Rig.seen g.G.Rig.leaves c.in-Closed.shape.frames x
    (opened-on tell old x.rig k.calms c.in-Closed.shape.frames (parts x) size k.settled k.opened).opened

pub returns-in-Err-clause-reopens : goal.returns-in-Err-clause-reopens
returns-in-Err-clause-reopens g c = λ is did. absurd (none-did c.in-Err.refusal (sym c.as_refused.ensures ∙ did))
