use Rattle.std.proofs.Common.{ℕ, ◌⊎◌, ◌≤◌, sym, subst}
use Rattle.std.specs.Prelude.{Some}
use Rattle.sd_base.specs.Streams.{Rises}
use Rattle.sd_model.specs.declared.event.Event.TheVariants as event
use Rattle.sd_model.specs.declared.event.Reply.TheVariants as reply
use Rattle.sd_rig.specs.Devices.{LeavesOnly}
use Rattle.sd_world.specs.Serving.{Telling, telling}
use Rattle.sd_fits.specs.Bodies.{LeavesNoMore, ServingHall, rig_of}
use Rattle.sd_fits.specs.declared.body.Body.{Body}
use Rattle.sd_fits.proofs.Bodies.{all-fail-again-served, all-fail-served}
use Rattle.sd_recover.specs.Closing.{HasFrames}
use Rattle.sd_recover.proofs.closing.fail_all.Goals as goal

pub returns-in-Open-clause-served : goal.returns-in-Open-clause-served
returns-in-Open-clause-served g c =
    let tell : Telling _ = telling g.G.Rig.seen g.G.Rig.leaves g.G.Rig.moment g.G.Rig.since g.G.Rig.faults in
    let x = c.in-Open.complex in
    let new = c.crashed.result in
    subst (λ b. ServingHall tell (event.FailAll c.args.pick) (Some reply.Did) b (Body.Closed new c.args.shape)) (sym c.in-Open.is)
    (all-fail-served tell c.args.pick x new c.args.shape
    (subst (HasFrames c.args.shape.frames) c.in-Open.is c.requires.frames)
    (subst (λ d. LeavesNoMore tell d new) c.images.ensures c.crashed.ensures.calm)
    (subst (λ d. g.G.Rig.faults d ≤ g.G.Rig.faults new) c.images.ensures c.crashed.ensures.count))

pub returns-in-Open-clause-durable : goal.returns-in-Open-clause-durable
returns-in-Open-clause-durable g c =
    let new = c.crashed.result in
    subst (λ b. Rises (g.G.Rig.faults (rig_of b)) (g.G.Rig.faults new) ⊎ ((d : ℕ) → d ≤ 8 → LeavesOnly (g.G.Rig.seen new d) (g.G.Rig.leaves new d)))
    (sym c.in-Open.is)
    (subst (λ r. Rises (g.G.Rig.faults r) (g.G.Rig.faults new) ⊎ ((d : ℕ) → d ≤ 8 → LeavesOnly (g.G.Rig.seen new d) (g.G.Rig.leaves new d)))
    c.images.ensures c.crashed.ensures.durable)

pub returns-in-Closed-clause-served : goal.returns-in-Closed-clause-served
returns-in-Closed-clause-served g c =
    let tell : Telling _ = telling g.G.Rig.seen g.G.Rig.leaves g.G.Rig.moment g.G.Rig.since g.G.Rig.faults in
    let new = c.crashed-in-Closed.result in
    subst (λ b. ServingHall tell (event.FailAll c.args.pick) (Some reply.Did) b (Body.Closed new c.in-Closed.own)) (sym c.in-Closed.is)
    (all-fail-again-served tell c.args.pick c.in-Closed.rig new c.in-Closed.own c.crashed-in-Closed.ensures.calm c.crashed-in-Closed.ensures.count)

pub returns-in-Closed-clause-durable : goal.returns-in-Closed-clause-durable
returns-in-Closed-clause-durable g c =
    let new = c.crashed-in-Closed.result in
    subst (λ b. Rises (g.G.Rig.faults (rig_of b)) (g.G.Rig.faults new) ⊎ ((d : ℕ) → d ≤ 8 → LeavesOnly (g.G.Rig.seen new d) (g.G.Rig.leaves new d)))
    (sym c.in-Closed.is) c.crashed-in-Closed.ensures.durable
