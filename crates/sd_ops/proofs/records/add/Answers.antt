use Rattle.std.proofs.Common.{◌≡◌, ℤ, of_z, rules, subst, to_z, w64}
use Rattle.std.proofs.lemmas.Int.{to_z-of_z}
use Rattle.sd_model.specs.declared.event.Event.TheVariants as event
use Rattle.sd_world.specs.Serving.{did, telling}
use Rattle.sd_fits.specs.Serving.{Serving}
use Rattle.sd_state.specs.Complexes.{parts}
use Rattle.sd_ops.specs.Logged.{EditLeaves}
use Rattle.sd_ops.specs.declared.edits.Edit.TheVariants.{By}
use Rattle.sd_ops.proofs.Logging.{edit-logged, edit-refused, edit-touches}
use Rattle.sd_ops.proofs.records.add.Goals as goal

pub returns-clause-served : goal.returns-clause-served
returns-clause-served g c =
    let same : to_z w64 (of_z w64 c.args.by) ≡ c.args.by = search (rules, to_z-of_z) in
    subst (λ (by : ℤ). Serving (telling g.G.Rig.seen g.G.Rig.leaves g.G.Rig.moment g.G.Rig.since g.G.Rig.faults)
    (event.Add c.args.t.now c.args.r.now by) (did c.edit.result) c.args.c.now c.edit.new.c) same c.edit.ensures.served

pub returns-clause-untouched : goal.returns-clause-untouched
returns-clause-untouched g c =
    let same : to_z w64 (of_z w64 c.args.by) ≡ c.args.by = search (rules, to_z-of_z) in
    let old = parts c.args.c.now in
    let new = parts c.edit.new.c in
    edit-touches c.args.t.now c.args.r.now (By c.args.by) c.edit.result old new
    (subst (λ (by : ℤ). EditLeaves c.args.t.now c.args.r.now (By by) c.edit.result old new) same c.edit.ensures.left)

pub returns-clause-logged : goal.returns-clause-logged
returns-clause-logged g c =
    let same : to_z w64 (of_z w64 c.args.by) ≡ c.args.by = search (rules, to_z-of_z) in
    let old = parts c.args.c.now in
    let new = parts c.edit.new.c in
    edit-logged c.args.t.now c.args.r.now (By c.args.by) c.edit.result old new
    (subst (λ (by : ℤ). EditLeaves c.args.t.now c.args.r.now (By by) c.edit.result old new) same c.edit.ensures.left)

pub returns-clause-refused : goal.returns-clause-refused
returns-clause-refused g c =
    let same : to_z w64 (of_z w64 c.args.by) ≡ c.args.by = search (rules, to_z-of_z) in
    let old = parts c.args.c.now in
    let new = parts c.edit.new.c in
    edit-refused c.args.t.now c.args.r.now (By c.args.by) c.edit.result old new
    (subst (λ (by : ℤ). EditLeaves c.args.t.now c.args.r.now (By by) c.edit.result old new) same c.edit.ensures.left)
