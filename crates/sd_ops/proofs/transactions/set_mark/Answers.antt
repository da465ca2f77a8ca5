use Rattle.std.proofs.Common.{◌≡◌, ℕ, List, subst, refl}
use Rattle.std.specs.Prelude.{None, option_map, Result}
use Rattle.std.proofs.lemmas.Result.{err_from_is_err_and}
use Rattle.sd_model.specs.Changes.{marked}
use Rattle.sd_model.specs.declared.event.Event.TheVariants as event
use Rattle.sd_model.specs.declared.event.Reply.TheVariants as reply
use Rattle.sd_txn.specs.Transactions.{saved, txn_at}
use Rattle.sd_state.specs.Complexes.{parts}
use Rattle.sd_state.specs.Good.{Good}
use Rattle.sd_state.specs.Parts.{Parts, txns_at}
use Rattle.sd_state.specs.Values.{Pending}
use Rattle.sd_ops.proofs.Marking.{marked-half, save-work}
use Rattle.sd_ops.proofs.Work.{err-half, off-half}
use Rattle.sd_base.specs.declared.refusal.Refusal.{Refusal}
use Rattle.sd_ops.specs.Leaving.{TableLeaves}
use Rattle.sd_ops.proofs.Leaving.{locks-same, txns-untouched}
use Rattle.sd_ops.proofs.Logging.{by-err}
use Rattle.sd_ops.proofs.transactions.set_mark.Goals as goal

pub returns-in_err-at_work-clause-half : goal.returns-in_err-at_work-clause-half
returns-in_err-at_work-clause-half g c =
    let rig = c.args.c.now.rig in
    let t = c.args.t.now in
    let name = c.args.mark.now in
    let p : Parts = parts c.args.c.now in
    let n = c.in_err-at_work.field-0.0 in
    let e = err_from_is_err_and c.from_residual.result c.from_residual.ensures.1 in
    err-half (λ v. reply.Did) c.from_residual.result e.0 n (g.G.Rig.seen rig) (g.G.Rig.leaves rig) None (event.Save t name) p p e.1 e.2
    (off-half (event.Save t name) t (save-work t name) (g.G.Rig.seen rig) (g.G.Rig.leaves rig) p c.at_work.ensures.low c.at_work.ensures.high n
    c.in_err-at_work.ensures.off)

pub returns-clause-half : goal.returns-clause-half
returns-clause-half g c =
    let rig = c.args.c.now.rig in
    let t = c.args.t.now in
    let name = c.args.mark.now in
    let old : Parts = parts c.args.c.now in
    let new : Parts = parts c.save.new.self in
    let w = c.in_ok-at_work.ensures in
    let e = c.in_ok-save.ensures in
    let is : c.in_ok-name.name ≡ name = c.in_ok-name.ensures in
    marked-half t name (g.G.Rig.seen rig) (g.G.Rig.leaves rig) old new c.at_work.ensures.low c.at_work.ensures.high w.up w.runs c.save.ensures.parts
    (subst (λ (k : List ℕ). txn_at (txns_at new t.inst) t ≡ option_map (saved k) (txn_at (txns_at old t.inst) t)) is e.row) c.save.ensures.others
    (λ m good. subst (λ (k : List ℕ). Good (g.G.Rig.seen rig) (g.G.Rig.leaves rig) Pending.Idle new (marked t k m)) is
    (subst (λ d. Good (g.G.Rig.seen d) (g.G.Rig.leaves d) Pending.Idle new (marked t c.in_ok-name.name m)) c.save.ensures.rig (e.good m good)))

-- ---- what it leaves

pub returns-in_err-at_work-clause-left : goal.returns-in_err-at_work-clause-left
returns-in_err-at_work-clause-left g c =
    let old : Parts = parts c.args.c.now in
    let e = err_from_is_err_and c.from_residual.result c.from_residual.ensures.1 in
    by-err (λ (x : Result (Unit {0}) Refusal). TableLeaves x old old) c.from_residual.result e.0 e.0 e.1 refl (locks-same old old refl)

pub returns-in_err-name-clause-left : goal.returns-in_err-name-clause-left
returns-in_err-name-clause-left g c =
    let old : Parts = parts c.args.c.now in
    let e = err_from_is_err_and c.from_residual-in_err-name.result c.from_residual-in_err-name.ensures.1 in
    by-err (λ (x : Result (Unit {0}) Refusal). TableLeaves x old old) c.from_residual-in_err-name.result e.0 e.0 e.1 refl (locks-same old old refl)

pub returns-in_err-save-clause-left : goal.returns-in_err-save-clause-left
returns-in_err-save-clause-left g c =
    let old : Parts = parts c.args.c.now in
    let new : Parts = parts c.save.new.self in
    let e = err_from_is_err_and c.from_residual-in_err-save.result c.from_residual-in_err-save.ensures.1 in
    by-err (λ (x : Result (Unit {0}) Refusal). TableLeaves x old new) c.from_residual-in_err-save.result e.0 e.0 e.1 refl
    (locks-same old new c.in_err-save.ensures.err)

pub returns-clause-left : goal.returns-clause-left
returns-clause-left g c =
    let new : Parts = parts c.save.new.self in
    txns-untouched c.args.t.now.inst (txns_at new c.args.t.now.inst) (parts c.args.c.now) new c.save.ensures.parts
