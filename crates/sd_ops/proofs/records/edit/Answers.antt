use Rattle.std.proofs.Common.{refl, sym, ◌∙◌, subst}
use Rattle.std.specs.Prelude.{None}
use Rattle.sd_base.specs.declared.ids.TxnId.{TxnId}
use Rattle.sd_model.specs.declared.event.Reply.TheVariants as reply
use Rattle.sd_state.specs.Complexes.{parts}
use Rattle.sd_world.specs.Serving.{telling}
use Rattle.sd_ops.specs.Edits.{event_of}
use Rattle.sd_ops.specs.Halves.{EndsWait, refusal_of}
use Rattle.sd_ops.proofs.Editing.{edit-work}
use Rattle.sd_ops.proofs.WaitEnded.{half-serves}
use Rattle.sd_ops.proofs.Logging.{ended-edit}
use Rattle.sd_ops.proofs.records.edit.Goals as goal

pub returns-clause-served : goal.returns-clause-served
returns-clause-served g c =
    half-serves (telling g.G.Rig.seen g.G.Rig.leaves g.G.Rig.moment g.G.Rig.since g.G.Rig.faults) None
    (event_of c.args.t.now c.args.r.now c.args.edit.now) c.args.c.now c.carry-done.new.c c.end_wait.new.c
    (λ img since. g.met.G.Rig.only_now c.args.c.now.rig img since) (c.end_wait.ensures.rig ∙ c.carry-done.ensures.rig) (λ v. reply.Did)
    (λ v. record { after = λ asked. refl; waits = λ e wanted asks. refl }) c.carry-done.result c.carry-done.ensures.half
    (subst (λ (t : TxnId). EndsWait t (refusal_of c.carry-done.result) (parts c.carry-done.new.c) (parts c.end_wait.new.c))
    (sym (edit-work c.args.t.now c.args.r.now c.args.edit.now).txn) c.end_wait.ensures.ended)

pub returns-clause-left : goal.returns-clause-left
returns-clause-left g c = ended-edit c.args.t.now c.args.r.now c.args.edit.now c.carry-done.result (parts c.args.c.now) (parts c.carry-done.new.c)
    (parts c.end_wait.new.c) c.carry-done.ensures.left c.end_wait.ensures.ended
