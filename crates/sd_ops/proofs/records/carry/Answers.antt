use Rattle.std.proofs.Common.{◌≡◌, inl, refl, sym, ap, ◌∙◌, subst}
use Rattle.std.specs.Prelude.{None, Some, option_copied, Result, Err}
use Rattle.std.proofs.lemmas.Result.{err_from_is_err_and}
use Rattle.sd_base.specs.declared.place.Mode.TheVariants.{Excl}
use Rattle.sd_base.specs.declared.place.Status.TheVariants as S
use Rattle.sd_base.specs.declared.refusal.Refusal.TheVariants as R
use Rattle.sd_model.specs.declared.event.Reply.TheVariants as reply
use Rattle.sd_reclock.specs.Answers.{IsFree}
use Rattle.sd_reclock.specs.Locks.{LockTable, stands, wait_for}
use Rattle.sd_update.specs.Changing.{image_for}
use Rattle.sd_state.specs.Complexes.{parts}
use Rattle.sd_state.specs.Good.{Good}
use Rattle.sd_state.specs.Parts.{Parts, status_at, txns_at}
use Rattle.sd_state.specs.Values.{Pending}
use Rattle.sd_txn.specs.Transactions.{state_at}
use Rattle.sd_txn.specs.declared.state.TxnState.{TxnState}
use Rattle.sd_world.specs.Serving.{did, refused}
use Rattle.sd_fits.specs.Fits.{Fits}
use Rattle.sd_fits.proofs.Refused.{unlike}
use Rattle.sd_ops.specs.declared.edits.Edit.{Edit}
use Rattle.sd_ops.specs.Edits.{IsPlan, event_of, Sets}
use Rattle.sd_ops.specs.Halves.{HalfServed}
use Rattle.sd_ops.specs.Copies.{LacksPage}
use Rattle.sd_ops.proofs.Edited.{put-served}
use Rattle.sd_ops.proofs.Editing.{edit-asked, edit-away, edit-long, edit-work}
use Rattle.sd_ops.proofs.Spoiling.{vain-half}
use Rattle.sd_ops.proofs.Work.{err-half, off-half}
use Rattle.sd_base.specs.declared.refusal.Refusal.{Refusal}
use Rattle.sd_ops.specs.Logged.{EditLeaves}
use Rattle.sd_ops.proofs.Leaving.{locks-same, only-locks}
use Rattle.sd_ops.proofs.Logging.{asked-edit, away-edit, by-err, notes-only, off-edit, put-edit, vain-edit}
use Rattle.sd_ops.proofs.records.carry.Goals as goal

pub returns-in_err-at_work-clause-half : goal.returns-in_err-at_work-clause-half
returns-in_err-at_work-clause-half g c =
    let rig = c.args.c.now.rig in
    let t = c.args.t.now in
    let r = c.args.r.now in
    let ev = event_of t r c.args.edit.now in
    let p : Parts = parts c.args.c.now in
    let n = c.in_err-at_work.field-0.0 in
    let e = err_from_is_err_and c.from_residual.result c.from_residual.ensures.1 in
    err-half (λ v. reply.Did) c.from_residual.result e.0 n (g.G.Rig.seen rig) (g.G.Rig.leaves rig) None ev p p e.1 e.2
    (off-half ev t (edit-work t r c.args.edit.now) (g.G.Rig.seen rig) (g.G.Rig.leaves rig) p c.at_work.ensures.low c.at_work.ensures.high n
    c.in_err-at_work.ensures.off)

pub returns-then-is_long-clause-half : goal.returns-then-is_long-clause-half
returns-then-is_long-clause-half g c =
    let rig = c.args.c.now.rig in
    edit-long c.args.t.now c.args.r.now (g.G.Rig.seen rig) (g.G.Rig.leaves rig) (parts c.args.c.now) c.at_work.ensures.low c.at_work.ensures.high
    c.in_ok-at_work.ensures.up c.in_ok-at_work.ensures.runs c.args.edit.now (c.is_long.ensures.0 c.if-is_long.true)

pub returns-in_err-ask-clause-half : goal.returns-in_err-ask-clause-half
returns-in_err-ask-clause-half g c =
    let rig = c.args.c.now.rig in
    let t = c.args.t.now in
    let r = c.args.r.now in
    let ev = event_of t r c.args.edit.now in
    let p : Parts = parts c.args.c.now in
    let n = c.in_err-ask.field-0.0 in
    let e = err_from_is_err_and c.from_residual-in_err-ask.result c.from_residual-in_err-ask.ensures.1 in
    err-half (λ v. reply.Did) c.from_residual-in_err-ask.result e.0 n (g.G.Rig.seen rig) (g.G.Rig.leaves rig) None ev p (parts c.ask.new.c) e.1 e.2
    (edit-asked t r (g.G.Rig.seen rig) (g.G.Rig.leaves rig) p c.at_work.ensures.low c.at_work.ensures.high c.in_ok-at_work.ensures.up
    c.in_ok-at_work.ensures.runs c.args.edit.now (λ long. unlike c.if-is_long.false (c.is_long.ensures.1 long))
    (parts c.ask.new.c) n c.in_err-ask.ensures.refused c.in_err-ask.ensures.noted)

pub returns-in_err-plan-clause-half : goal.returns-in_err-plan-clause-half
returns-in_err-plan-clause-half g c =
    let rig = c.args.c.now.rig in
    let t = c.args.t.now in
    let r = c.args.r.now in
    let ev = event_of t r c.args.edit.now in
    let p : Parts = parts c.args.c.now in
    let n = c.in_err-plan.field-0.0 in
    let same = c.in_ok-ask.ensures.same in
    let e = err_from_is_err_and c.from_residual-in_err-plan.result c.from_residual-in_err-plan.ensures.1 in
    err-half (λ v. reply.Did) c.from_residual-in_err-plan.result e.0 n (g.G.Rig.seen rig) (g.G.Rig.leaves rig) None ev p (parts c.ask.new.c) e.1 e.2
    (subst (λ (x : Parts). HalfServed (g.G.Rig.seen rig) (g.G.Rig.leaves rig) None ev (refused n) p x) (sym same)
    (edit-away t r (g.G.Rig.seen rig) (g.G.Rig.leaves rig) p c.at_work.ensures.low c.at_work.ensures.high c.in_ok-at_work.ensures.up
    c.in_ok-at_work.ensures.runs c.args.edit.now (λ long. unlike c.if-is_long.false (c.is_long.ensures.1 long))
    c.in_ok-ask.ensures.free n (subst (λ (x : Parts). LacksPage Excl t.inst r.page x n) same c.in_err-plan.ensures.lacks)))

pub put-requires-clause-free : goal.put-requires-clause-free
put-requires-clause-free g c = subst (λ (l : LockTable). IsFree (stands l) c.args.t.now (wait_for c.args.r.now Excl))
    (sym (ap (λ (x : Parts). x.locks) c.in_ok-ask.ensures.same)) c.in_ok-ask.ensures.free

pub grant-requires-clause-free : goal.grant-requires-clause-free
grant-requires-clause-free g c = subst (λ (l : LockTable). IsFree (stands l) c.args.t.now (wait_for c.args.r.now Excl))
    (sym (ap (λ (x : Parts). x.locks) c.in_ok-ask.ensures.same)) c.in_ok-ask.ensures.free

pub returns-in-Put-clause-half : goal.returns-in-Put-clause-half
returns-in-Put-clause-half g c =
    let t = c.args.t.now in
    let r = c.args.r.now in
    let ev = event_of t r c.args.edit.now in
    let mid : Parts = parts c.ask.new.c in
    let same = c.in_ok-ask.ensures.same in
    subst (λ d. HalfServed (g.G.Rig.seen d) (g.G.Rig.leaves d) None ev (did c.put.result) (parts c.args.c.now) (parts c.put.new.c)) c.ask.ensures.rig
    (subst (λ (x : Parts). HalfServed (g.G.Rig.seen c.ask.new.c.rig) (g.G.Rig.leaves c.ask.new.c.rig) None ev (did c.put.result) x
    (parts c.put.new.c)) same
    (put-served t r c.args.edit.now (λ long. unlike c.if-is_long.false (c.is_long.ensures.1 long))
    (g.G.Rig.seen c.ask.new.c.rig) (g.G.Rig.leaves c.ask.new.c.rig) mid c.at_work.ensures.low c.at_work.ensures.high
    (subst (λ (x : Parts). status_at x t.inst ≡ S.Up) (sym same) c.in_ok-at_work.ensures.up)
    (subst (λ (x : Parts). state_at (txns_at x t.inst) t ≡ Some TxnState.Running) (sym same) c.in_ok-at_work.ensures.runs)
    (subst (λ (x : Parts). IsFree (stands x.locks) t (wait_for r Excl)) (sym same) c.in_ok-ask.ensures.free)
    c.in_ok-plan.ensures.held c.in-Put.capacity (option_copied c.in-Put.after)
    (subst (IsPlan (image_for t r.page mid) r.slot c.args.edit.now) c.in-Put.is
    (subst (λ (e : Edit). IsPlan (image_for t r.page mid) r.slot e c.in_ok-plan.plan) c.lent.ensures c.in_ok-plan.ensures.plan))
    c.put.result (parts c.put.new.c) c.put.ensures.put c.put.ensures.lowered c.put.ensures.full c.put.ensures.lsns c.put.ensures.refusals))

pub returns-in_ok-grant-in-Refuse-clause-half : goal.returns-in_ok-grant-in-Refuse-clause-half
returns-in_ok-grant-in-Refuse-clause-half g c =
    let rig = c.args.c.now.rig in
    let t = c.args.t.now in
    let r = c.args.r.now in
    let ev = event_of t r c.args.edit.now in
    let mid : Parts = parts c.ask.new.c in
    let same = c.in_ok-ask.ensures.same in
    subst (λ (x : Parts). HalfServed (g.G.Rig.seen rig) (g.G.Rig.leaves rig) None ev (refused c.in-Refuse.refusal) x (parts c.grant.new.self)) same
    (vain-half t r (g.G.Rig.seen rig) (g.G.Rig.leaves rig) mid c.at_work.ensures.low c.at_work.ensures.high
    (subst (λ (x : Parts). status_at x t.inst ≡ S.Up) (sym same) c.in_ok-at_work.ensures.up)
    (subst (λ (x : Parts). state_at (txns_at x t.inst) t ≡ Some TxnState.Running) (sym same) c.in_ok-at_work.ensures.runs)
    (subst (λ (x : Parts). IsFree (stands x.locks) t (wait_for r Excl)) (sym same) c.in_ok-ask.ensures.free)
    c.in_ok-plan.ensures.held c.args.edit.now (λ long. unlike c.if-is_long.false (c.is_long.ensures.1 long))
    c.in-Refuse.refusal (subst (IsPlan (image_for t r.page mid) r.slot c.args.edit.now) c.in-Refuse.is
    (subst (λ (e : Edit). IsPlan (image_for t r.page mid) r.slot e c.in_ok-plan.plan) c.lent.ensures c.in_ok-plan.ensures.plan))
    (parts c.grant.new.self)
    (record { rest = c.grant.ensures.parts; given = c.in_ok-grant-in-Refuse.ensures.given; waiting = c.grant.ensures.waits }))

-- ---- what is asked of the calls

pub at_work-requires : goal.at_work-requires
at_work-requires g c = c.requires.fits.1.good.shape

pub planned-requires : goal.planned-requires
planned-requires g c =
    let rig = c.args.c.now.rig in
    let m = c.requires.fits.0.scene.state in record {
      good = (
        m,
        subst (λ d. Good (g.G.Rig.seen d) (g.G.Rig.leaves d) Pending.Idle (parts c.ask.new.c) m) (sym c.ask.ensures.rig)
            (subst (λ (x : Parts). Good (g.G.Rig.seen rig) (g.G.Rig.leaves rig) Pending.Idle x m) (sym c.in_ok-ask.ensures.same)
            c.requires.fits.1.good),
      );
    }

pub put-requires-clause-fits : goal.put-requires-clause-fits
put-requires-clause-fits g c =
    let rig = c.args.c.now.rig in
    let w = c.requires.fits.0 in (
      w,
      subst (λ d. Fits (g.G.Rig.seen d) (g.G.Rig.leaves d) (parts c.ask.new.c) w) (sym c.ask.ensures.rig)
          (subst (λ (x : Parts). Fits (g.G.Rig.seen rig) (g.G.Rig.leaves rig) x w) (sym c.in_ok-ask.ensures.same) c.requires.fits.1),
    )

pub put-requires-clause-up : goal.put-requires-clause-up
put-requires-clause-up g c = subst (λ (x : Parts). status_at x c.args.t.now.inst ≡ S.Up) (sym c.in_ok-ask.ensures.same)
    c.in_ok-at_work.ensures.up

pub put-requires-clause-runs : goal.put-requires-clause-runs
put-requires-clause-runs g c = let t = c.args.t.now in
    subst (λ (x : Parts). state_at (txns_at x t.inst) t ≡ Some TxnState.Running) (sym c.in_ok-ask.ensures.same) c.in_ok-at_work.ensures.runs

pub put-requires-clause-held : goal.put-requires-clause-held
put-requires-clause-held g c = c.in_ok-plan.ensures.held

pub put-requires-clause-small : goal.put-requires-clause-small
put-requires-clause-small g c =
    let r = c.args.r.now in
    let image = image_for c.args.t.now r.page (parts c.ask.new.c) in
    let plan = subst (IsPlan image r.slot c.args.edit.now) c.in-Put.is
    (subst (λ (e : Edit). IsPlan image r.slot e c.in_ok-plan.plan) c.lent.ensures c.in_ok-plan.ensures.plan) in
    plan.small

pub put-requires-clause-takes : goal.put-requires-clause-takes
put-requires-clause-takes g c =
    let r = c.args.r.now in
    let image = image_for c.args.t.now r.page (parts c.ask.new.c) in
    let plan = subst (IsPlan image r.slot c.args.edit.now) c.in-Put.is
    (subst (λ (e : Edit). IsPlan image r.slot e c.in_ok-plan.plan) c.lent.ensures c.in_ok-plan.ensures.plan) in
    plan.fits

pub grant-requires-clause-good : goal.grant-requires-clause-good
grant-requires-clause-good g c =
    let rig = c.args.c.now.rig in
    let m = c.requires.fits.0.scene.state in (
      m,
      subst (λ d. Good (g.G.Rig.seen d) (g.G.Rig.leaves d) Pending.Idle (parts c.ask.new.c) m) (sym c.ask.ensures.rig)
          (subst (λ (x : Parts). Good (g.G.Rig.seen rig) (g.G.Rig.leaves rig) Pending.Idle x m) (sym c.in_ok-ask.ensures.same)
          c.requires.fits.1.good),
    )

pub grant-requires-clause-idle : goal.grant-requires-clause-idle
grant-requires-clause-idle g c = ap (λ (x : Parts). x.due) c.in_ok-ask.ensures.same ∙ c.requires.fits.1.idle

pub grant-requires-clause-up : goal.grant-requires-clause-up
grant-requires-clause-up g c = subst (λ (x : Parts). status_at x c.args.t.now.inst ≡ S.Up) (sym c.in_ok-ask.ensures.same)
    c.in_ok-at_work.ensures.up

pub grant-requires-clause-runs : goal.grant-requires-clause-runs
grant-requires-clause-runs g c = let t = c.args.t.now in
    subst (λ (x : Parts). state_at (txns_at x t.inst) t ≡ Some TxnState.Running) (sym c.in_ok-ask.ensures.same) c.in_ok-at_work.ensures.runs

-- ---- the way out where there is no memory for the lock, and the rig

pub returns-in_err-grant-in-Refuse-clause-half : goal.returns-in_err-grant-in-Refuse-clause-half
returns-in_err-grant-in-Refuse-clause-half g c =
    let rig = c.args.c.now.rig in
    let ev = event_of c.args.t.now c.args.r.now c.args.edit.now in
    let e = err_from_is_err_and c.from_residual-in_err-grant-in-Refuse.result c.from_residual-in_err-grant-in-Refuse.ensures.1 in
    err-half (λ v. reply.Did) c.from_residual-in_err-grant-in-Refuse.result e.0 R.Memory (g.G.Rig.seen rig) (g.G.Rig.leaves rig) None ev
    (parts c.args.c.now) (parts c.grant.new.self) e.1 e.2
    (λ w f. subst (λ (x : Parts). Fits (g.G.Rig.seen rig) (g.G.Rig.leaves rig) x w)
    (sym (c.in_err-grant-in-Refuse.ensures.err ∙ c.in_ok-ask.ensures.same)) f)

pub returns-in_err-grant-in-Refuse-clause-rig : goal.returns-in_err-grant-in-Refuse-clause-rig
returns-in_err-grant-in-Refuse-clause-rig g c = c.grant.ensures.rig ∙ c.ask.ensures.rig

pub returns-in_ok-grant-in-Refuse-clause-rig : goal.returns-in_ok-grant-in-Refuse-clause-rig
returns-in_ok-grant-in-Refuse-clause-rig g c = c.grant.ensures.rig ∙ c.ask.ensures.rig

pub returns-in-Put-clause-rig : goal.returns-in-Put-clause-rig
returns-in-Put-clause-rig g c = c.put.ensures.rig ∙ c.ask.ensures.rig

-- ---- what it leaves

abbrev Answer : Type 0
Answer = Result (Unit {0}) Refusal

pub returns-in_err-at_work-clause-left : goal.returns-in_err-at_work-clause-left
returns-in_err-at_work-clause-left g c =
    let t = c.args.t.now in
    let r = c.args.r.now in
    let edit = c.args.edit.now in
    let p : Parts = parts c.args.c.now in
    let n = c.in_err-at_work.field-0.0 in
    let e = err_from_is_err_and c.from_residual.result c.from_residual.ensures.1 in
    by-err (λ (x : Answer). EditLeaves t r edit x p p) c.from_residual.result e.0 n e.1 e.2
    (off-edit t r edit p n c.in_err-at_work.ensures.off, locks-same p p refl)

pub returns-then-is_long-clause-left : goal.returns-then-is_long-clause-left
returns-then-is_long-clause-left g c =
    let p : Parts = parts c.args.c.now in
    (inl (c.is_long.ensures.0 c.if-is_long.true), locks-same p p refl)

pub returns-in_err-ask-clause-left : goal.returns-in_err-ask-clause-left
returns-in_err-ask-clause-left g c =
    let t = c.args.t.now in
    let r = c.args.r.now in
    let edit = c.args.edit.now in
    let p : Parts = parts c.args.c.now in
    let new : Parts = parts c.ask.new.c in
    let n = c.in_err-ask.field-0.0 in
    let e = err_from_is_err_and c.from_residual-in_err-ask.result c.from_residual-in_err-ask.ensures.1 in
    by-err (λ (x : Answer). EditLeaves t r edit x p new) c.from_residual-in_err-ask.result e.0 n e.1 e.2
    (asked-edit t r edit p n c.in_err-ask.ensures.refused, notes-only t (wait_for r Excl) n p new c.in_err-ask.ensures.noted)

pub returns-in_err-plan-clause-left : goal.returns-in_err-plan-clause-left
returns-in_err-plan-clause-left g c =
    let t = c.args.t.now in
    let r = c.args.r.now in
    let edit = c.args.edit.now in
    let p : Parts = parts c.args.c.now in
    let new : Parts = parts c.ask.new.c in
    let n = c.in_err-plan.field-0.0 in
    let e = err_from_is_err_and c.from_residual-in_err-plan.result c.from_residual-in_err-plan.ensures.1 in
    by-err (λ (x : Answer). EditLeaves t r edit x p new) c.from_residual-in_err-plan.result e.0 n e.1 e.2
    (away-edit t r edit p new n c.in_err-plan.ensures.lacks, locks-same p new c.in_ok-ask.ensures.same)

pub returns-in-Put-clause-left : goal.returns-in-Put-clause-left
returns-in-Put-clause-left g c =
    let t = c.args.t.now in
    let r = c.args.r.now in
    let edit = c.args.edit.now in
    let mid : Parts = parts c.ask.new.c in
    let new : Parts = parts c.put.new.c in
    let image = image_for t r.page mid in
    let sets : Sets image r.slot edit c.in-Put.capacity (option_copied c.in-Put.after) = subst (IsPlan image r.slot edit) c.in-Put.is
    (subst (λ (e : Edit). IsPlan image r.slot e c.in_ok-plan.plan) c.lent.ensures c.in_ok-plan.ensures.plan) in
    subst (λ (x : Parts). EditLeaves t r edit c.put.result x new) c.in_ok-ask.ensures.same
    (put-edit t r edit c.in-Put.capacity (option_copied c.in-Put.after) c.put.result mid new sets c.put.ensures.left)

pub returns-in_err-grant-in-Refuse-clause-left : goal.returns-in_err-grant-in-Refuse-clause-left
returns-in_err-grant-in-Refuse-clause-left g c =
    let p : Parts = parts c.args.c.now in
    let new : Parts = parts c.grant.new.self in
    let e = err_from_is_err_and c.from_residual-in_err-grant-in-Refuse.result c.from_residual-in_err-grant-in-Refuse.ensures.1 in
    by-err (λ (x : Answer). EditLeaves c.args.t.now c.args.r.now c.args.edit.now x p new) c.from_residual-in_err-grant-in-Refuse.result e.0 R.Memory
    e.1 e.2 (tt, locks-same p new (c.in_err-grant-in-Refuse.ensures.err ∙ c.in_ok-ask.ensures.same))

pub returns-in_ok-grant-in-Refuse-clause-left : goal.returns-in_ok-grant-in-Refuse-clause-left
returns-in_ok-grant-in-Refuse-clause-left g c =
    let t = c.args.t.now in
    let r = c.args.r.now in
    let edit = c.args.edit.now in
    let n = c.in-Refuse.refusal in
    let mid : Parts = parts c.ask.new.c in
    let new : Parts = parts c.grant.new.self in
    let image = image_for t r.page mid in
    let refused : Answer = Err n in
    subst (λ (x : Parts). EditLeaves t r edit refused x new) c.in_ok-ask.ensures.same (
      vain-edit t r edit mid n (subst (IsPlan image r.slot edit) c.in-Refuse.is
          (subst (λ (e : Edit). IsPlan image r.slot e c.in_ok-plan.plan) c.lent.ensures c.in_ok-plan.ensures.plan)),
      only-locks mid new c.grant.ensures.parts,
    )
