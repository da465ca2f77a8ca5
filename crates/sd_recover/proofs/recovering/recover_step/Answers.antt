use Rattle.std.proofs.Common.{inl, inr, ⊎_elim, ℕ, refl, sym, ap, ◌∙◌, subst}
use Rattle.std.specs.Prelude.{◌≡◌, Result, Err, Ok}
use Rattle.std.proofs.lemmas.Result.{err_from_is_err_and}
use Rattle.sd_base.specs.declared.place.Status.TheVariants as S
use Rattle.sd_base.specs.declared.refusal.Refusal.{Refusal}
use Rattle.sd_base.specs.declared.refusal.Refusal.TheVariants as R
use Rattle.sd_fits.specs.Serving.{Serving}
use Rattle.sd_model.specs.declared.event.Event.TheVariants.{RecoverStep}
use Rattle.sd_pagelock.specs.Places.{seen}
use Rattle.sd_state.specs.Complexes.{parts}
use Rattle.sd_state.specs.Parts.{Parts}
use Rattle.sd_world.specs.Serving.{Telling, answered, telling}
use Rattle.sd_recover.specs.Doing.{HasDone, LeavesElse, StepFell}
use Rattle.sd_recover.specs.Recovering.{AwaitsPage, IsStandingBy, WantsNone, recovery}
use Rattle.sd_recover.specs.declared.recovering.Recovery.{Recovery}
use Rattle.sd_recover.specs.declared.recovering.Recovery.TheVariants as recoveries
use Rattle.sd_recover.specs.declared.tasks.Task.{Task}
use Rattle.sd_recover.proofs.Doing.{same-untouched}
use Rattle.sd_recover.proofs.Fallen.{step-down}
use Rattle.sd_recover.proofs.NextOne.{next-one}
use Rattle.sd_recover.proofs.Wanting.{Wants, unrecovering-wants}
use Rattle.sd_recover.proofs.Stepped.{none-failed, step-refused}
use Rattle.sd_recover.proofs.recovering.recover_step.Goals as goal

same-err : (a b : Refusal) → ◌≡◌ {A = Result Recovery Refusal} (Err a) (Err b) → a ≡ b
same-err a b e = cc

pub returns-in_err-by-clause-served : goal.returns-in_err-by-clause-served
returns-in_err-by-clause-served g c =
    let old = c.args.c.now in
    let tell : Telling _ = telling g.G.Rig.seen g.G.Rig.leaves g.G.Rig.moment g.G.Rig.since g.G.Rig.faults in
    let n = c.keeps.ensures in
    let p = err_from_is_err_and c.from_residual.result c.from_residual.ensures.1 in
    subst (λ (r : Result Recovery Refusal). Serving tell (RecoverStep c.args.i) (answered recovery r) old old)
    (sym (p.1 ∙ ap (λ (k : Refusal). Err k) p.2))
    (step-refused tell old c.args.i n.low n.high (λ img since. g.met.G.Rig.only_now old.rig img since)
    c.in_err-by.field-0.0 c.in_err-by.ensures.refused)

pub returns-in_err-by-clause-down : goal.returns-in_err-by-clause-down
returns-in_err-by-clause-down g c = λ e.
    let p = err_from_is_err_and c.from_residual.result c.from_residual.ensures.1 in
    absurd (none-failed (parts c.args.c.now) c.args.i c.in_err-by.field-0.0 c.in_err-by.ensures.refused
    (same-err c.in_err-by.field-0.0 R.Failed (sym (p.1 ∙ ap (λ (k : Refusal). Err k) p.2) ∙ e)))

pub returns-clause-down : goal.returns-clause-down
returns-clause-down g c = λ e.
    ⊎_elim
    (λ fell. inl (
      c.in_ok-by.by,
      c.in_ok-by.ensures.by,
      step-down c.args.i c.in_ok-by.by c.next_task-task.result (parts c.args.c.now) (parts c.work_on.new.c) fell,
    ))
    (λ read. inr read)
    (c.work_on.ensures.fell e)

not-step : (k : Refusal) → ◌≡◌ {A = Result Recovery Refusal} (Err k) (Ok recoveries.Step) → ⊥
not-step k e = cc

pub returns-in_err-by-clause-stepped : goal.returns-in_err-by-clause-stepped
returns-in_err-by-clause-stepped g c = λ e.
    let p = err_from_is_err_and c.from_residual.result c.from_residual.ensures.1 in
    absurd (not-step c.in_err-by.field-0.0 (sym (p.1 ∙ ap (λ (k : Refusal). Err k) p.2) ∙ e))

pub returns-in_err-by-clause-cleared : goal.returns-in_err-by-clause-cleared
returns-in_err-by-clause-cleared g c = λ e.
    let p = err_from_is_err_and c.from_residual.result c.from_residual.ensures.1 in
    absurd (not-step c.in_err-by.field-0.0 (sym (p.1 ∙ ap (λ (k : Refusal). Err k) p.2) ∙ e))

pub returns-in_err-by-clause-awaits : goal.returns-in_err-by-clause-awaits
returns-in_err-by-clause-awaits g c =
    let old : Parts = parts c.args.c.now in
    let p = err_from_is_err_and c.from_residual.result c.from_residual.ensures.1 in
    subst (λ (r : Result Recovery Refusal). Wants r (λ place. AwaitsPage old c.args.i (seen place)))
    (sym (p.1 ∙ ap (λ (k : Refusal). Err k) p.2))
    (λ place is. absurd (subst WantsNone is (unrecovering-wants old c.args.i c.in_err-by.field-0.0 c.in_err-by.ensures.refused)))

pub returns-in_err-by-clause-waits : goal.returns-in_err-by-clause-waits
returns-in_err-by-clause-waits g c =
    let old : Parts = parts c.args.c.now in
    let p = err_from_is_err_and c.from_residual.result c.from_residual.ensures.1 in
    subst (λ (r : Result Recovery Refusal). Wants r (λ place. (old ≡ old) × IsStandingBy old (seen place)))
    (sym (p.1 ∙ ap (λ (k : Refusal). Err k) p.2))
    (λ place is. absurd (subst WantsNone is (unrecovering-wants old c.args.i c.in_err-by.field-0.0 c.in_err-by.ensures.refused)))

pub returns-in_err-by-clause-next : goal.returns-in_err-by-clause-next
returns-in_err-by-clause-next g c = λ e.
    let p = err_from_is_err_and c.from_residual.result c.from_residual.ensures.1 in
    absurd (not-step c.in_err-by.field-0.0 (sym (p.1 ∙ ap (λ (k : Refusal). Err k) p.2) ∙ e))

pub returns-in_err-by-clause-leaves : goal.returns-in_err-by-clause-leaves
returns-in_err-by-clause-leaves g c = λ e.
    let p = err_from_is_err_and c.from_residual.result c.from_residual.ensures.1 in
    absurd (not-step c.in_err-by.field-0.0 (sym (p.1 ∙ ap (λ (k : Refusal). Err k) p.2) ∙ e))

pub returns-in_err-by-clause-stands : goal.returns-in_err-by-clause-stands
returns-in_err-by-clause-stands g c = λ e.
    let p = err_from_is_err_and c.from_residual.result c.from_residual.ensures.1 in
    absurd (not-step c.in_err-by.field-0.0 (sym (p.1 ∙ ap (λ (k : Refusal). Err k) p.2) ∙ e))

pub returns-in_err-by-clause-falls : goal.returns-in_err-by-clause-falls
returns-in_err-by-clause-falls g c = λ e.
    let p = err_from_is_err_and c.from_residual.result c.from_residual.ensures.1 in
    absurd (not-step c.in_err-by.field-0.0 (sym (p.1 ∙ ap (λ (k : Refusal). Err k) p.2) ∙ e))

not-done : (k : Refusal) → ◌≡◌ {A = Result Recovery Refusal} (Err k) (Ok recoveries.Done) → ⊥
not-done k e = cc

pub returns-in_err-by-clause-done : goal.returns-in_err-by-clause-done
returns-in_err-by-clause-done g c = λ e.
    let p = err_from_is_err_and c.from_residual.result c.from_residual.ensures.1 in
    absurd (not-done c.in_err-by.field-0.0 (sym (p.1 ∙ ap (λ (k : Refusal). Err k) p.2) ∙ e))

pub returns-clause-next : goal.returns-clause-next
returns-clause-next g c = λ fine next is.
    let old : Parts = parts c.args.c.now in
    subst (λ (k : Task). HasDone c.args.i k old (parts c.work_on.new.c))
    (next-one old c.args.i c.next_task-task.result next c.next_task-task.ensures.next is) (c.work_on.ensures.did fine).done

same-by : (a b : ℕ) → S.Recovering a ≡ S.Recovering b → a ≡ b
same-by a b e = cc

pub returns-clause-leaves : goal.returns-clause-leaves
returns-clause-leaves g c = λ fine next by is recovers.
    let old : Parts = parts c.args.c.now in
    let seen = g.G.Rig.seen c.args.c.now.rig in
    let who = same-by c.in_ok-by.by by (sym c.in_ok-by.ensures.by ∙ recovers) in
    subst (λ (b : ℕ). LeavesElse c.args.i b seen next old (parts c.work_on.new.c)) who
    (subst (λ (k : Task). LeavesElse c.args.i c.in_ok-by.by seen k old (parts c.work_on.new.c))
    (next-one old c.args.i c.next_task-task.result next c.next_task-task.ensures.next is) (c.work_on.ensures.did fine).leaves)

pub returns-clause-stands : goal.returns-clause-stands
returns-clause-stands g c = λ fine. (c.work_on.ensures.did fine).stands

pub returns-clause-falls : goal.returns-clause-falls
returns-clause-falls g c = λ fine. (c.work_on.ensures.did fine).falls

pub returns-in_err-by-clause-fell : goal.returns-in_err-by-clause-fell
returns-in_err-by-clause-fell g c = λ e.
    let p = err_from_is_err_and c.from_residual.result c.from_residual.ensures.1 in
    absurd (none-failed (parts c.args.c.now) c.args.i c.in_err-by.field-0.0 c.in_err-by.ensures.refused
    (same-err c.in_err-by.field-0.0 R.Failed (sym (p.1 ∙ ap (λ (k : Refusal). Err k) p.2) ∙ e)))

pub returns-in_err-by-clause-short : goal.returns-in_err-by-clause-short
returns-in_err-by-clause-short g c = λ e. same-untouched (parts c.args.c.now) (parts c.args.c.now) refl

pub returns-in_err-by-clause-ended : goal.returns-in_err-by-clause-ended
returns-in_err-by-clause-ended g c = λ e.
    let p = err_from_is_err_and c.from_residual.result c.from_residual.ensures.1 in
    absurd (not-done c.in_err-by.field-0.0 (sym (p.1 ∙ ap (λ (k : Refusal). Err k) p.2) ∙ e))

pub returns-clause-fell : goal.returns-clause-fell
returns-clause-fell g c = λ e next by is recovers.
    let old : Parts = parts c.args.c.now in
    let new = c.work_on.new.c in
    let who = same-by c.in_ok-by.by by (sym c.in_ok-by.ensures.by ∙ recovers) in
    ⊎_elim
    (λ fell. inl (subst (λ (b : ℕ). StepFell c.args.i b next old (parts new)) who
    (subst (λ (k : Task). StepFell c.args.i c.in_ok-by.by k old (parts new))
    (next-one old c.args.i c.next_task-task.result next c.next_task-task.ensures.next is) fell)))
    (λ read. inr read)
    (c.work_on.ensures.fell e)

pub returns-clause-refused : goal.returns-clause-refused
returns-clause-refused g c = λ never. absurd (never c.in_ok-by.by c.in_ok-by.ensures.by)
