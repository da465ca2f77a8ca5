use Rattle.std.proofs.Common.{refl, ◌∙◌}
use Rattle.sd_model.specs.declared.event.Event.TheVariants as event
use Rattle.sd_model.specs.declared.event.Reply.TheVariants as reply
use Rattle.sd_world.specs.Serving.{telling}
use Rattle.sd_ops.proofs.WaitEnded.{half-serves}
use Rattle.sd_state.specs.Complexes.{parts}
use Rattle.sd_ops.proofs.Logging.{ended-fill, fill-logged, fill-refused, fill-touches}
use Rattle.sd_ops.proofs.inserting.insert.Goals as goal

pub returns-clause-served : goal.returns-clause-served
returns-clause-served g c =
    half-serves (telling g.G.Rig.seen g.G.Rig.leaves g.G.Rig.moment g.G.Rig.since g.G.Rig.faults) c.fill-done.ensures.half.0
    (event.Insert c.args.t.now c.args.p c.args.value.now c.args.capacity) c.args.c.now c.fill-done.new.c c.end_wait.new.c
    (λ img since. g.met.G.Rig.only_now c.args.c.now.rig img since) (c.end_wait.ensures.rig ∙ c.fill-done.ensures.rig)
    (λ r. reply.At r)
    (λ r. record { after = λ asked. refl; waits = λ e wanted asks. refl }) c.fill-done.result c.fill-done.ensures.half.1
    c.end_wait.ensures.ended

pub returns-clause-untouched : goal.returns-clause-untouched
returns-clause-untouched g c =
    let t = c.args.t.now in
    let v = c.args.value.now in
    let old = parts c.args.c.now in
    let new = parts c.end_wait.new.c in
    fill-touches t c.args.p v c.args.capacity c.fill-done.result old new
    (ended-fill t c.args.p v c.args.capacity c.fill-done.result old (parts c.fill-done.new.c) new c.fill-done.ensures.left c.end_wait.ensures.ended)

pub returns-clause-logged : goal.returns-clause-logged
returns-clause-logged g c =
    let t = c.args.t.now in
    let v = c.args.value.now in
    let old = parts c.args.c.now in
    let new = parts c.end_wait.new.c in
    fill-logged t c.args.p v c.args.capacity c.fill-done.result old new
    (ended-fill t c.args.p v c.args.capacity c.fill-done.result old (parts c.fill-done.new.c) new c.fill-done.ensures.left c.end_wait.ensures.ended)

pub returns-clause-refused : goal.returns-clause-refused
returns-clause-refused g c =
    let t = c.args.t.now in
    let v = c.args.value.now in
    let old = parts c.args.c.now in
    let new = parts c.end_wait.new.c in
    fill-refused t c.args.p v c.args.capacity c.fill-done.result old new
    (ended-fill t c.args.p v c.args.capacity c.fill-done.result old (parts c.fill-done.new.c) new c.fill-done.ensures.left c.end_wait.ensures.ended)
