use Rattle.std.proofs.Common.{refl, ◌∙◌}
use Rattle.std.specs.Prelude.{None}
use Rattle.sd_model.specs.declared.event.Event.TheVariants as event
use Rattle.sd_model.specs.declared.event.Reply.TheVariants as reply
use Rattle.sd_world.specs.Serving.{telling}
use Rattle.sd_ops.proofs.WaitEnded.{half-serves}
use Rattle.sd_state.specs.Complexes.{parts}
use Rattle.sd_ops.proofs.Endings.{ended-table}
use Rattle.sd_ops.proofs.transactions.save.Goals as goal

pub returns-clause-served : goal.returns-clause-served
returns-clause-served g c = half-serves (telling g.G.Rig.seen g.G.Rig.leaves g.G.Rig.moment g.G.Rig.since g.G.Rig.faults) None
    (event.Save c.args.t.now c.args.mark.now) c.args.c.now c.set_mark-done.new.c c.end_wait.new.c (λ img since. g.met.G.Rig.only_now c.args.c.now.rig img since)
    (c.end_wait.ensures.rig ∙ c.set_mark-done.ensures.rig) (λ v. reply.Did) (λ v. record { after = λ asked. refl; waits = λ e wanted asks. refl })
    c.set_mark-done.result c.set_mark-done.ensures.half c.end_wait.ensures.ended

pub returns-clause-untouched : goal.returns-clause-untouched
returns-clause-untouched g c = ended-table c.args.t.now c.set_mark-done.result (parts c.args.c.now) (parts c.set_mark-done.new.c)
    (parts c.end_wait.new.c) c.set_mark-done.ensures.left c.end_wait.ensures.ended
