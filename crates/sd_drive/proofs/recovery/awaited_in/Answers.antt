use Rattle.std.proofs.Common.{sym, ◌∙◌}
use Rattle.std.specs.Prelude.{Some}
use Rattle.sd_fits.specs.declared.body.Body.{Body}
use Rattle.sd_world.specs.Serving.{Telling, telling}
use Rattle.sd_drive.proofs.Bodies.{status-is}
use Rattle.sd_drive.proofs.recovery.awaited_in.Goals as goal

pub returns-in-Some-clause-waits : goal.returns-in-Some-clause-waits
returns-in-Some-clause-waits g c = λ w fits.
    let tell : Telling _ = telling g.G.Rig.seen g.G.Rig.leaves g.G.Rig.moment g.G.Rig.since g.G.Rig.faults in
    let i = c.keeps.ensures in
    let there = c.status.ensures ∙ status-is tell (Some (Body.Open c.args.c.now)) w fits c.args.inst
    i.low i.high in
    (sym there ∙ c.in-Recovering.is, c.in-Some.ensures.claimed w c.in-Recovering.by fits (sym c.status.ensures ∙ c.in-Recovering.is))

pub returns-in-None-clause-waits : goal.returns-in-None-clause-waits
returns-in-None-clause-waits g c = λ w by fits awaits is. c.in-None.ensures.none awaits.0 awaits.1 awaits.2

pub returns-in_default-clause-waits : goal.returns-in_default-clause-waits
returns-in_default-clause-waits g c = λ w by fits awaits is.
    let tell : Telling _ = telling g.G.Rig.seen g.G.Rig.leaves g.G.Rig.moment g.G.Rig.since g.G.Rig.faults in
    let i = c.keeps.ensures in
    let there = c.status.ensures ∙ status-is tell (Some (Body.Open c.args.c.now)) w fits c.args.inst
    i.low i.high in
    c.in_default.not-Recovering by (there ∙ is)

pub returns-in-Some-clause-next : goal.returns-in-Some-clause-next
returns-in-Some-clause-next g c = (c.in-Some.next.1, c.in-Some.ensures.some, sym c.status.ensures ∙ c.in-Recovering.is)
