use Rattle.std.proofs.Common.{Some, sym, subst}
use Rattle.sd_world.specs.Serving.{Telling, telling}
use Rattle.sd_fits.specs.Bodies.{ServingHall, fits_body}
use Rattle.sd_fits.specs.declared.body.Body.{Body}
use Rattle.sd_fits.proofs.Bodies.{open-served}
use Rattle.sd_hall.specs.Bodies.{AwaitsIn, IsWorked}
use Rattle.sd_hall.specs.Served.{told_in}
use Rattle.sd_hall.proofs.Answering.{closed-worked}
use Rattle.sd_hall.proofs.turning.serve_body.Goals as goal

pub serve-requires-clause-few : goal.serve-requires-clause-few
serve-requires-clause-few g c =
    let few = c.requires.few in
    (few.0, subst (λ b. fits_body g.G.Rig.seen g.G.Rig.leaves b few.0) c.in-Open.is few.1, few.2)

pub returns-in-Open-clause-served : goal.returns-in-Open-clause-served
returns-in-Open-clause-served g c =
    let tell : Telling _ = telling g.G.Rig.seen g.G.Rig.leaves g.G.Rig.moment g.G.Rig.since g.G.Rig.faults in
    let new = c.serve.new.c in
    subst (λ b. ServingHall tell c.args.e.now (told_in c.serve.result c.serve.new.answer) b (Body.Open new)) (sym c.in-Open.is)
    (open-served tell c.args.e.now (told_in c.serve.result c.serve.new.answer) c.in-Open.complex new c.serve.ensures.served)

pub returns-in-Open-clause-awaits : goal.returns-in-Open-clause-awaits
returns-in-Open-clause-awaits g c = λ i place is needs.
    subst (λ b. AwaitsIn i (Some b)) (sym c.in-Open.is) (c.serve.ensures.awaits i place is needs)

pub returns-in-Open-clause-works : goal.returns-in-Open-clause-works
returns-in-Open-clause-works g c = λ r told.
    subst (λ b. IsWorked g.G.Rig.seen c.args.e.now r (Some b) (Some (Body.Open c.serve.new.c))) (sym c.in-Open.is) (c.serve.ensures.works r told)

pub returns-in-Closed-clause-served : goal.returns-in-Closed-clause-served
returns-in-Closed-clause-served g c =
    let tell : Telling _ = telling g.G.Rig.seen g.G.Rig.leaves g.G.Rig.moment g.G.Rig.since g.G.Rig.faults in
    let shape = c.in-Closed.field-1 in
    subst (λ b. ServingHall tell c.args.e.now (Some c.on_closed.result) b (Body.Closed c.on_closed.new.rig shape)) (sym c.in-Closed.is)
    (c.on_closed.ensures.served shape)

pub returns-in-Closed-clause-works : goal.returns-in-Closed-clause-works
returns-in-Closed-clause-works g c = λ r told.
    let shape = c.in-Closed.field-1 in
    subst (λ b. IsWorked g.G.Rig.seen c.args.e.now r (Some b) (Some (Body.Closed c.on_closed.new.rig shape))) (sym c.in-Closed.is)
    (closed-worked g.G.Rig.seen c.args.e.now r _ shape (Some (Body.Closed c.on_closed.new.rig shape)))
