use Rattle.std.proofs.Common.{sym, ap, ◌∙◌, subst}
use Rattle.std.specs.Prelude.{Result, Err}
use Rattle.std.proofs.lemmas.Result.{err_from_is_err_and}
use Rattle.sd_base.specs.declared.refusal.Refusal.{Refusal}
use Rattle.sd_fits.specs.Serving.{Serving}
use Rattle.sd_model.specs.declared.event.Event.TheVariants.{RecoverBegin}
use Rattle.sd_world.specs.Serving.{did, telling}
use Rattle.sd_recover.proofs.Begun.{begin-refused, begins}
use Rattle.sd_recover.proofs.beginning.recover_begin.Goals as goal

pub returns-clause-served : goal.returns-clause-served
returns-clause-served g c =
    let old = c.args.c.now in
    let tell = telling g.G.Rig.seen g.G.Rig.leaves g.G.Rig.moment g.G.Rig.since g.G.Rig.faults in
    let n = c.keeps.ensures in
    let k = c.keeps-2.ensures in
    let e = c.recovering.ensures in
    begins tell old c.args.i c.args.by n.low n.high k.low k.high (λ img since. g.met.G.Rig.only_now old.rig img since)
    c.recovering.new.c e.rig e.parts e.good c.in_ok-may_begin.ensures.down c.in_ok-may_begin.ensures.recoverer

pub returns-in_err-may_begin-clause-served : goal.returns-in_err-may_begin-clause-served
returns-in_err-may_begin-clause-served g c =
    let old = c.args.c.now in
    let tell = telling g.G.Rig.seen g.G.Rig.leaves g.G.Rig.moment g.G.Rig.since g.G.Rig.faults in
    let n = c.keeps.ensures in
    let k = c.keeps-2.ensures in
    let p = err_from_is_err_and c.from_residual.result c.from_residual.ensures.1 in
    subst (λ (r : Result (Unit {0}) Refusal). Serving tell (RecoverBegin c.args.i c.args.by) (did r) old old)
    (sym (p.1 ∙ ap (λ (n : Refusal). Err n) p.2))
    (begin-refused tell old c.args.i c.args.by n.low n.high k.low k.high (λ img since. g.met.G.Rig.only_now old.rig img since)
    c.in_err-may_begin.field-0.0 c.in_err-may_begin.ensures.refused)
