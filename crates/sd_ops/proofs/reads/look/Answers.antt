use Rattle.std.proofs.Common.{◌≡◌, ◌∙◌, sym, ap, subst, refl}
use Rattle.std.specs.Prelude.{None, Some}
use Rattle.std.proofs.lemmas.Result.{err_from_is_err_and}
use Rattle.sd_base.specs.declared.place.Mode.TheVariants.{Shared}
use Rattle.sd_base.specs.declared.place.Status.TheVariants as S
use Rattle.sd_base.specs.declared.refusal.Refusal.TheVariants as R
use Rattle.sd_model.specs.declared.event.Event.TheVariants as event
use Rattle.sd_model.specs.declared.event.Reply.TheVariants as reply
use Rattle.sd_reclock.specs.Answers.{IsFree}
use Rattle.sd_reclock.specs.Locks.{LockTable, stands, wait_for}
use Rattle.sd_state.specs.Complexes.{parts}
use Rattle.sd_state.specs.Good.{Good}
use Rattle.sd_state.specs.Parts.{Parts, status_at, txns_at}
use Rattle.sd_state.specs.Values.{Pending}
use Rattle.sd_txn.specs.Transactions.{state_at}
use Rattle.sd_txn.specs.declared.state.TxnState.{TxnState}
use Rattle.sd_world.specs.Serving.{refused}
use Rattle.sd_fits.specs.Fits.{Fits}
use Rattle.sd_ops.specs.Halves.{HalfServed}
use Rattle.sd_ops.specs.Copies.{LacksPage}
use Rattle.sd_ops.proofs.Reading.{read-asked, read-away, read-done, read-work}
use Rattle.sd_ops.proofs.Work.{err-half, off-half}
use Rattle.sd_ops.specs.Leaving.{OnlyLocks}
use Rattle.sd_ops.proofs.Leaving.{locks-same, only-locks}
use Rattle.sd_ops.proofs.Logging.{notes-only}
use Rattle.sd_ops.proofs.reads.look.Goals as goal

pub returns-in_err-at_work-clause-half : goal.returns-in_err-at_work-clause-half
returns-in_err-at_work-clause-half g c =
    let rig = c.args.c.now.rig in
    let t = c.args.t.now in
    let r = c.args.r.now in
    let p : Parts = parts c.args.c.now in
    let n = c.in_err-at_work.field-0.0 in
    let e = err_from_is_err_and c.from_residual.result c.from_residual.ensures.1 in
    err-half (λ v. reply.Value v) c.from_residual.result e.0 n (g.G.Rig.seen rig) (g.G.Rig.leaves rig) None (event.Read t r) p p e.1 e.2
    (off-half (event.Read t r) t (read-work t r) (g.G.Rig.seen rig) (g.G.Rig.leaves rig) p c.at_work.ensures.low c.at_work.ensures.high n
    c.in_err-at_work.ensures.off)

pub returns-in_err-ask-clause-half : goal.returns-in_err-ask-clause-half
returns-in_err-ask-clause-half g c =
    let rig = c.args.c.now.rig in
    let t = c.args.t.now in
    let r = c.args.r.now in
    let p : Parts = parts c.args.c.now in
    let n = c.in_err-ask.field-0.0 in
    let e = err_from_is_err_and c.from_residual-in_err-ask.result c.from_residual-in_err-ask.ensures.1 in
    err-half (λ v. reply.Value v) c.from_residual-in_err-ask.result e.0 n (g.G.Rig.seen rig) (g.G.Rig.leaves rig) None (event.Read t r) p (parts c.ask.new.c) e.1 e.2
    (read-asked t r (g.G.Rig.seen rig) (g.G.Rig.leaves rig) p c.at_work.ensures.low c.at_work.ensures.high c.in_ok-at_work.ensures.up
    c.in_ok-at_work.ensures.runs (parts c.ask.new.c) n c.in_err-ask.ensures.refused c.in_err-ask.ensures.noted)

pub returns-in_err-value-clause-half : goal.returns-in_err-value-clause-half
returns-in_err-value-clause-half g c =
    let rig = c.args.c.now.rig in
    let t = c.args.t.now in
    let r = c.args.r.now in
    let p : Parts = parts c.args.c.now in
    let n = c.in_err-value.field-0.0 in
    let same = c.in_ok-ask.ensures.same in
    let e = err_from_is_err_and c.from_residual-in_err-value.result c.from_residual-in_err-value.ensures.1 in
    err-half (λ v. reply.Value v) c.from_residual-in_err-value.result e.0 n (g.G.Rig.seen rig) (g.G.Rig.leaves rig) None (event.Read t r) p (parts c.ask.new.c) e.1 e.2
    (subst (λ (x : Parts). HalfServed (g.G.Rig.seen rig) (g.G.Rig.leaves rig) None (event.Read t r) (refused n) p x) (sym same)
    (read-away t r (g.G.Rig.seen rig) (g.G.Rig.leaves rig) p c.at_work.ensures.low c.at_work.ensures.high c.in_ok-at_work.ensures.up
    c.in_ok-at_work.ensures.runs c.in_ok-ask.ensures.free n
    (subst (λ (x : Parts). LacksPage Shared t.inst r.page x n) same c.in_err-value.ensures.lacks)))

pub grant-requires-clause-free : goal.grant-requires-clause-free
grant-requires-clause-free g c = subst (λ (l : LockTable). IsFree (stands l) c.args.t.now (wait_for c.args.r.now Shared))
    (sym (ap (λ (x : Parts). x.locks) c.in_ok-ask.ensures.same)) c.in_ok-ask.ensures.free

pub returns-clause-half : goal.returns-clause-half
returns-clause-half g c =
    let rig = c.args.c.now.rig in
    let t = c.args.t.now in
    let r = c.args.r.now in
    let p : Parts = parts c.args.c.now in
    let mid : Parts = parts c.ask.new.c in
    let same = c.in_ok-ask.ensures.same in
    subst (λ (x : Parts). HalfServed (g.G.Rig.seen rig) (g.G.Rig.leaves rig) None (event.Read t r) (Some (reply.Value c.in_ok-value.value)) x
    (parts c.grant.new.self)) same
    (read-done t r (g.G.Rig.seen rig) (g.G.Rig.leaves rig) mid c.at_work.ensures.low c.at_work.ensures.high
    (subst (λ (x : Parts). status_at x t.inst ≡ S.Up) (sym same) c.in_ok-at_work.ensures.up)
    (subst (λ (x : Parts). state_at (txns_at x t.inst) t ≡ Some TxnState.Running) (sym same) c.in_ok-at_work.ensures.runs)
    (subst (λ (x : Parts). IsFree (stands x.locks) t (wait_for r Shared)) (sym same) c.in_ok-ask.ensures.free)
    (parts c.grant.new.self) c.in_ok-value.value c.in_ok-value.ensures.held c.in_ok-value.ensures.value c.grant.ensures.parts
    c.in_ok-grant.ensures.given c.grant.ensures.waits)

-- ---- what is asked of the calls

pub at_work-requires : goal.at_work-requires
at_work-requires g c = c.requires.fits.1.good.shape

pub grant-requires-clause-good : goal.grant-requires-clause-good
grant-requires-clause-good g c =
    let rig = c.args.c.now.rig in
    let m = c.requires.fits.0.scene.state in (
      m,
      subst (λ d. Good (g.G.Rig.seen d) (g.G.Rig.leaves d) Pending.Idle (parts c.ask.new.c) m) (sym c.ask.ensures.rig)
          (subst (λ (x : Parts). Good (g.G.Rig.seen rig) (g.G.Rig.leaves rig) Pending.Idle x m) (sym c.in_ok-ask.ensures.same)
          c.requires.fits.1.good),
    )

pub grant-requires-clause-idle : goal.grant-requires-clause-idle
grant-requires-clause-idle g c = ap (λ (x : Parts). x.due) c.in_ok-ask.ensures.same ∙ c.requires.fits.1.idle

pub grant-requires-clause-up : goal.grant-requires-clause-up
grant-requires-clause-up g c = subst (λ (x : Parts). status_at x c.args.t.now.inst ≡ S.Up) (sym c.in_ok-ask.ensures.same)
    c.in_ok-at_work.ensures.up

pub grant-requires-clause-runs : goal.grant-requires-clause-runs
grant-requires-clause-runs g c = let t = c.args.t.now in
    subst (λ (x : Parts). state_at (txns_at x t.inst) t ≡ Some TxnState.Running) (sym c.in_ok-ask.ensures.same) c.in_ok-at_work.ensures.runs

-- ---- the way out where there is no memory for the lock, and the rig

pub returns-in_err-grant-clause-half : goal.returns-in_err-grant-clause-half
returns-in_err-grant-clause-half g c =
    let rig = c.args.c.now.rig in
    let ev = event.Read c.args.t.now c.args.r.now in
    let e = err_from_is_err_and c.from_residual-in_err-grant.result c.from_residual-in_err-grant.ensures.1 in
    err-half (λ v. reply.Value v) c.from_residual-in_err-grant.result e.0 R.Memory (g.G.Rig.seen rig) (g.G.Rig.leaves rig) None ev
    (parts c.args.c.now) (parts c.grant.new.self) e.1 e.2
    (λ w f. subst (λ (x : Parts). Fits (g.G.Rig.seen rig) (g.G.Rig.leaves rig) x w)
    (sym (c.in_err-grant.ensures.err ∙ c.in_ok-ask.ensures.same)) f)

pub returns-in_err-grant-clause-rig : goal.returns-in_err-grant-clause-rig
returns-in_err-grant-clause-rig g c = c.grant.ensures.rig ∙ c.ask.ensures.rig

pub returns-clause-rig : goal.returns-clause-rig
returns-clause-rig g c = c.grant.ensures.rig ∙ c.ask.ensures.rig

-- ---- what it leaves

pub returns-in_err-at_work-clause-left : goal.returns-in_err-at_work-clause-left
returns-in_err-at_work-clause-left g c = locks-same (parts c.args.c.now) (parts c.args.c.now) refl

pub returns-in_err-ask-clause-left : goal.returns-in_err-ask-clause-left
returns-in_err-ask-clause-left g c = notes-only c.args.t.now (wait_for c.args.r.now Shared) c.in_err-ask.field-0.0 (parts c.args.c.now)
    (parts c.ask.new.c) c.in_err-ask.ensures.noted

pub returns-in_err-value-clause-left : goal.returns-in_err-value-clause-left
returns-in_err-value-clause-left g c = locks-same (parts c.args.c.now) (parts c.ask.new.c) c.in_ok-ask.ensures.same

pub returns-in_err-grant-clause-left : goal.returns-in_err-grant-clause-left
returns-in_err-grant-clause-left g c = locks-same (parts c.args.c.now) (parts c.grant.new.self)
    (c.in_err-grant.ensures.err ∙ c.in_ok-ask.ensures.same)

pub returns-clause-left : goal.returns-clause-left
returns-clause-left g c = subst (λ (x : Parts). OnlyLocks x (parts c.grant.new.self)) c.in_ok-ask.ensures.same
    (only-locks (parts c.ask.new.c) (parts c.grant.new.self) c.grant.ensures.parts)
