use Rattle.std.proofs.Common.{◌∙◌, ap, sym}
use Rattle.sd_base.specs.Standing.{active_as}
use Rattle.sd_fits.specs.Untouched.{none_of}
use Rattle.sd_state.specs.Complexes.{parts}
use Rattle.sd_world.specs.Serving.{telling}
use Rattle.sd_recover.proofs.Failed.{fail-refused, failed}
use Rattle.sd_recover.proofs.Touched.{fall-alone}
use Rattle.sd_recover.proofs.failing.fail.Goals as goal

pub returns-then-not-is_active-clause-served : goal.returns-then-not-is_active-clause-served
returns-then-not-is_active-clause-served g c =
    let old = c.args.c.now in
    let tell = telling g.G.Rig.seen g.G.Rig.leaves g.G.Rig.moment g.G.Rig.since g.G.Rig.faults in
    fail-refused tell old c.args.i c.keeps.ensures.low c.keeps.ensures.high
    (λ img since. g.met.G.Rig.only_now old.rig img since)
    (ap (active_as c.args.i) (sym c.status.ensures) ∙ sym c.if-not-is_active.ensures)

pub returns-clause-served : goal.returns-clause-served
returns-clause-served g c =
    let old = c.args.c.now in
    let tell = telling g.G.Rig.seen g.G.Rig.leaves g.G.Rig.moment g.G.Rig.since g.G.Rig.faults in
    let down = c.down.ensures in
    failed tell old c.args.i c.keeps.ensures.low c.keeps.ensures.high
    (λ img since. g.met.G.Rig.only_now old.rig img since) c.down.new.c down.rig down.parts down.fallen down.good
    (ap (active_as c.args.i) (sym c.status.ensures) ∙ sym c.if-not-is_active.ensures)

pub returns-clause-fell : goal.returns-clause-fell
returns-clause-fell g c = fall-alone c.args.i none_of (parts c.args.c.now) (parts c.down.new.c) c.keeps.ensures.low c.down.ensures.parts
    c.down.ensures.fallen
