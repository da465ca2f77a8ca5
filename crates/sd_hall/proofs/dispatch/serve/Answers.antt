use Rattle.std.proofs.Common.{◌≡◌, Some, sym, ◌∙◌, subst}
use Rattle.sd_base.specs.declared.ids.TxnId.{TxnId}
use Rattle.sd_base.specs.declared.place.Status.TheVariants as S
use Rattle.sd_state.specs.Complexes.{parts}
use Rattle.sd_state.specs.Parts.{status_at}
use Rattle.sd_world.specs.Serving.{Telling, telling}
use Rattle.sd_model.specs.declared.event.Event.{Event}
use Rattle.sd_fits.specs.declared.body.Body.{Body}
use Rattle.sd_hall.specs.Bodies.{AwaitsUndo, IsWorked}
use Rattle.sd_hall.proofs.Answering.{answered-some, awaits-so, failed-so, none-owed, plain-else, rest-worked, same-step, same-undo, served-as, step-worked}
use Rattle.sd_hall.proofs.dispatch.serve.Goals as goal

pub returns-in-Undo-clause-served : goal.returns-in-Undo-clause-served
returns-in-Undo-clause-served g c =
    let tell : Telling _ = telling g.G.Rig.seen g.G.Rig.leaves g.G.Rig.moment g.G.Rig.since g.G.Rig.faults in
    served-as tell c.args.c.now c.undo.new.c _ _ _ _ c.in-Undo.is c.as_step.ensures c.undo.ensures.served

pub returns-in-Undo-clause-there : goal.returns-in-Undo-clause-there
returns-in-Undo-clause-there g c = λ w owed none. answered-some _ c.undo.result c.undo.ensures.there (sym c.as_step.ensures ∙ none)

pub returns-in-Undo-clause-down : goal.returns-in-Undo-clause-down
returns-in-Undo-clause-down g c = λ t is failed.
    let same : c.in-Undo.txn ≡ t = same-undo c.in-Undo.txn t (sym c.in-Undo.is ∙ is) in
    subst (λ (u : TxnId). status_at (parts c.undo.new.c) u.inst ≡ S.Down) same
    (c.undo.ensures.down (failed-so c.undo.result (sym c.as_step.ensures ∙ failed)))

pub returns-in-Commit-clause-served : goal.returns-in-Commit-clause-served
returns-in-Commit-clause-served g c =
    let tell : Telling _ = telling g.G.Rig.seen g.G.Rig.leaves g.G.Rig.moment g.G.Rig.since g.G.Rig.faults in
    served-as tell c.args.c.now c.commit.new.c _ _ _ _ c.in-Commit.is c.as_did.ensures c.commit.ensures.served

pub returns-in-Commit-clause-there : goal.returns-in-Commit-clause-there
returns-in-Commit-clause-there g c = λ m owed none. answered-some _ c.commit.result c.commit.ensures.there (sym c.as_did.ensures ∙ none)

pub returns-in-Fail-clause-served : goal.returns-in-Fail-clause-served
returns-in-Fail-clause-served g c =
    let tell : Telling _ = telling g.G.Rig.seen g.G.Rig.leaves g.G.Rig.moment g.G.Rig.since g.G.Rig.faults in
    served-as tell c.args.c.now c.fail.new.c _ _ _ _ c.in-Fail.is c.as_did-in-Fail.ensures c.fail.ensures.served

pub returns-in-Fail-clause-there : goal.returns-in-Fail-clause-there
returns-in-Fail-clause-there g c = λ m owed none. answered-some _ c.fail.result c.fail.ensures.there (sym c.as_did-in-Fail.ensures ∙ none)

pub returns-in-RecoverStep-clause-served : goal.returns-in-RecoverStep-clause-served
returns-in-RecoverStep-clause-served g c =
    let tell : Telling _ = telling g.G.Rig.seen g.G.Rig.leaves g.G.Rig.moment g.G.Rig.since g.G.Rig.faults in
    served-as tell c.args.c.now c.recover_step.new.c _ _ _ _ c.in-RecoverStep.is c.as_recovery.ensures c.recover_step.ensures.served

pub returns-in-RecoverStep-clause-awaits : goal.returns-in-RecoverStep-clause-awaits
returns-in-RecoverStep-clause-awaits g c = λ i place is needs.
    let same : c.in-RecoverStep.inst ≡ i = same-step c.in-RecoverStep.inst i (sym c.in-RecoverStep.is ∙ is) in
    subst (AwaitsUndo (parts c.args.c.now)) same
    (awaits-so (parts c.args.c.now) c.in-RecoverStep.inst c.recover_step.result c.recover_step.ensures.awaits place
    (sym c.as_recovery.ensures ∙ needs))

pub returns-in-RecoverStep-clause-works : goal.returns-in-RecoverStep-clause-works
returns-in-RecoverStep-clause-works g c = λ r told.
    let old = c.args.c.now in
    let new = c.recover_step.new.c in
    let step = c.recover_step.ensures in
    subst (λ (e : Event). IsWorked g.G.Rig.seen e r (Some (Body.Open old)) (Some (Body.Open new))) (sym c.in-RecoverStep.is)
    (step-worked g.G.Rig.seen c.in-RecoverStep.inst c.recover_step.result old new
    (λ done. record { cleared = step.cleared done; stepped = step.stepped done; stands = step.stands done; falls = step.falls done })
    step.done step.awaits step.waits r (sym c.as_recovery.ensures ∙ told))

pub serve_plain-requires-clause-plain : goal.serve_plain-requires-clause-plain
serve_plain-requires-clause-plain g c =
    let no = c.in_default in plain-else c.args.e.now no.not-Commit no.not-Undo no.not-Fail no.not-RecoverStep

pub returns-in_default-clause-there : goal.returns-in_default-clause-there
returns-in_default-clause-there g c = λ w owed.
    let no = c.in_default in absurd (none-owed w c.args.e.now no.not-Commit no.not-Undo no.not-Fail owed)

pub returns-in_default-clause-down : goal.returns-in_default-clause-down
returns-in_default-clause-down g c = λ t is failed. absurd (c.in_default.not-Undo t is)

pub returns-in_default-clause-awaits : goal.returns-in_default-clause-awaits
returns-in_default-clause-awaits g c = λ i place is needs. absurd (c.in_default.not-RecoverStep i is)

pub returns-in_default-clause-works : goal.returns-in_default-clause-works
returns-in_default-clause-works g c = λ r told.
    rest-worked g.G.Rig.seen c.args.e.now c.args.c.now c.serve_plain.new.c c.in_default.not-RecoverStep c.serve_plain.ensures.rest r

pub returns-in-Undo-clause-works : goal.returns-in-Undo-clause-works
returns-in-Undo-clause-works g c = λ r told. subst (λ (e : Event). IsWorked g.G.Rig.seen e r (Some (Body.Open c.args.c.now))
    (Some (Body.Open c.undo.new.c))) (sym c.in-Undo.is) tt

pub returns-in-Commit-clause-works : goal.returns-in-Commit-clause-works
returns-in-Commit-clause-works g c = λ r told. subst (λ (e : Event). IsWorked g.G.Rig.seen e r (Some (Body.Open c.args.c.now))
    (Some (Body.Open c.commit.new.c))) (sym c.in-Commit.is) tt

pub returns-in-Fail-clause-works : goal.returns-in-Fail-clause-works
returns-in-Fail-clause-works g c = λ r told. subst (λ (e : Event). IsWorked g.G.Rig.seen e r (Some (Body.Open c.args.c.now))
    (Some (Body.Open c.fail.new.c))) (sym c.in-Fail.is) tt
