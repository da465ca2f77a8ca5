use Rattle.std.proofs.Common.{ℕ, List}
use Rattle.sd_model.specs.declared.event.Event.TheVariants as event
use Rattle.sd_model.specs.declared.event.Reply.TheVariants as reply
use Rattle.sd_state.specs.Values.{Pending}
use Rattle.sd_world.specs.Serving.{telling}
use Rattle.sd_ops.proofs.Used.{used-serves}
use Rattle.std.specs.Prelude.{Option, Result}
use Rattle.std.proofs.lemmas.Result.{err_from_is_err_and}
use Rattle.sd_base.specs.declared.refusal.Refusal.{Refusal}
use Rattle.sd_state.specs.Complexes.{parts}
use Rattle.sd_ops.specs.Leaving.{UseLeaves}
use Rattle.sd_ops.proofs.Leaving.{used-left}
use Rattle.sd_ops.proofs.Logging.{by-err}
use Rattle.sd_ops.proofs.reads.read.Goals as goal

pub touch-requires : goal.touch-requires
touch-requires g c =
    let s = c.in_ok-content.ensures.served.0 c.requires.fits.0 c.requires.fits.1 in
    record { good = (Pending.Idle, s.0.scene.state, s.1.fits_then.good) }

pub returns-clause-served : goal.returns-clause-served
returns-clause-served g c = used-serves (telling g.G.Rig.seen g.G.Rig.leaves g.G.Rig.moment g.G.Rig.since g.G.Rig.faults)
    c.args.t.now.inst c.args.r.now.page c.value_for.new.c c.touch.new.c
    c.keeps.ensures.low c.keeps.ensures.high
    c.touch.ensures.rig c.touch.ensures.parts c.touch.ensures.good (event.Read c.args.t.now c.args.r.now)
    (reply.Value c.in_ok-content.content) c.args.c.now c.in_ok-content.ensures.served

pub returns-in_err-content-clause-untouched : goal.returns-in_err-content-clause-untouched
returns-in_err-content-clause-untouched g c =
    let old = parts c.args.c.now in
    let new = parts c.value_for.new.c in
    let e = err_from_is_err_and c.from_residual.result c.from_residual.ensures.1 in
    by-err (λ (x : Result (Option (List ℕ)) Refusal). UseLeaves c.args.t.now.inst c.args.r.now.page x old new) c.from_residual.result e.0
    c.in_err-content.field-0.0 e.1 e.2 c.value_for.ensures.left

pub returns-clause-untouched : goal.returns-clause-untouched
returns-clause-untouched g c =
    let s = c.in_ok-content.ensures.served.0 c.requires.fits.0 c.requires.fits.1 in
    used-left c.args.t.now.inst c.args.r.now.page (parts c.args.c.now) (parts c.value_for.new.c) (parts c.touch.new.c) c.keeps.ensures.low
    c.keeps.ensures.high s.1.fits_then.good.shape c.value_for.ensures.left c.touch.ensures.parts
