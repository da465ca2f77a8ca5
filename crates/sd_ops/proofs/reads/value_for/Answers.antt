use Rattle.std.proofs.Common.{refl, ◌∙◌}
use Rattle.std.specs.Prelude.{None}
use Rattle.sd_model.specs.declared.event.Event.TheVariants as event
use Rattle.sd_model.specs.declared.event.Reply.TheVariants as reply
use Rattle.sd_world.specs.Serving.{telling}
use Rattle.sd_ops.proofs.WaitEnded.{half-serves}
use Rattle.sd_state.specs.Complexes.{parts}
use Rattle.sd_ops.specs.Halves.{refusal_of}
use Rattle.sd_ops.proofs.Leaving.{locks-then}
use Rattle.sd_ops.proofs.Logging.{ends-only}
use Rattle.sd_ops.proofs.reads.value_for.Goals as goal

pub returns-clause-served : goal.returns-clause-served
returns-clause-served g c = half-serves (telling g.G.Rig.seen g.G.Rig.leaves g.G.Rig.moment g.G.Rig.since g.G.Rig.faults) None
    (event.Read c.args.t.now c.args.r.now) c.args.c.now c.look-done.new.c c.end_wait.new.c (λ img since. g.met.G.Rig.only_now c.args.c.now.rig img since)
    (c.end_wait.ensures.rig ∙ c.look-done.ensures.rig) (λ v. reply.Value v) (λ v. record { after = λ asked. refl; waits = λ e wanted asks. refl })
    c.look-done.result c.look-done.ensures.half c.end_wait.ensures.ended

pub returns-clause-left : goal.returns-clause-left
returns-clause-left g c =
    let mid = parts c.look-done.new.c in
    let new = parts c.end_wait.new.c in
    locks-then (parts c.args.c.now) mid new c.look-done.ensures.left
    (ends-only c.args.t.now (refusal_of c.look-done.result) mid new c.end_wait.ensures.ended).rest
