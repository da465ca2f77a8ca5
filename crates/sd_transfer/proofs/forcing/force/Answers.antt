use Rattle.std.proofs.Common.{◌≡◌, ◌∙◌, ap, subst, sym}
use Rattle.std.specs.Prelude.{OnErr, Result}
use Rattle.sd_base.specs.declared.place.Status.TheVariants as S
use Rattle.sd_base.specs.declared.refusal.Refusal.{Refusal}
use Rattle.sd_state.specs.Complexes.{parts}
use Rattle.sd_state.specs.Parts.{status_at}
use Rattle.sd_base.specs.Standing.{active_as}
use Rattle.sd_world.specs.Serving.{telling}
use Rattle.sd_fits.proofs.Resting.{rests-same}
use Rattle.sd_transfer.proofs.Touched.{failed-alone}
use Rattle.sd_transfer.proofs.Forces.{force-did, force-refused}
use Rattle.sd_transfer.proofs.forcing.force.Goals as goal

pub returns-then-not-is_active-clause-served : goal.returns-then-not-is_active-clause-served
returns-then-not-is_active-clause-served g c =
    let tell = telling g.G.Rig.seen g.G.Rig.leaves g.G.Rig.moment g.G.Rig.since g.G.Rig.faults in
    let old = c.args.c.now in
    force-refused tell old c.args.i c.keeps.ensures.low c.keeps.ensures.high
    (λ img since. g.met.G.Rig.only_now old.rig img since)
    (ap (active_as c.args.i) (sym c.status.ensures) ∙ sym c.is_active.ensures ∙ c.if-not-is_active.true)

pub returns-clause-served : goal.returns-clause-served
returns-clause-served g c =
    let tell = telling g.G.Rig.seen g.G.Rig.leaves g.G.Rig.moment g.G.Rig.since g.G.Rig.faults in
    let force = c.force_or_fall.ensures in
    force-did tell c.args.c.now c.args.i c.keeps.ensures.low c.keeps.ensures.high
    (ap (active_as c.args.i) (sym c.status.ensures) ∙ sym c.is_active.ensures ∙ c.if-not-is_active.false)
    c.force_or_fall.new.c c.force_or_fall.result force.spared force.failed force.only

pub returns-clause-down : goal.returns-clause-down
returns-clause-down g c = λ e.
    subst (λ (r : Result (Unit {0}) Refusal). OnErr r (status_at (parts c.force_or_fall.new.c) c.args.i ≡ S.Down)) e
    c.force_or_fall.ensures.down

pub returns-then-not-is_active-clause-rest : goal.returns-then-not-is_active-clause-rest
returns-then-not-is_active-clause-rest g c = rests-same (parts c.args.c.now)

pub returns-clause-refused : goal.returns-clause-refused
returns-clause-refused g c = failed-alone c.force_or_fall.result _ c.force_or_fall.ensures.only
