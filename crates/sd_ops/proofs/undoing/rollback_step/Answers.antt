use Rattle.std.proofs.Common.{◌≡◌, ℕ, true, refl, sym, subst}
use Rattle.std.specs.Prelude.{IsSome}
use Rattle.std.specs.List.{IsDistinct}
use Rattle.sd_base.specs.Ids.{same_txn}
use Rattle.sd_base.specs.declared.refusal.Refusal.TheVariants as R
use Rattle.sd_model.specs.Changes.{undid}
use Rattle.sd_pagelock.specs.Directory.{entry_at}
use Rattle.sd_pagelock.specs.Places.{owns}
use Rattle.sd_txn.specs.Transactions.{Transactions, ids}
use Rattle.sd_state.specs.Complexes.{parts}
use Rattle.sd_state.specs.Good.{Good}
use Rattle.sd_state.specs.Parts.{txns_at}
use Rattle.sd_state.specs.Values.{Pending}
use Rattle.sd_world.specs.Serving.{Telling, telling}
use Rattle.sd_ops.specs.Rolling.{LacksAlone}
use Rattle.sd_ops.proofs.Undone.{rolls-to, step-served, top-found, undo-lacks}
use Rattle.sd_ops.proofs.Leaving.{locks-same, undone-changed, undone-logged, undone-top}
use Rattle.sd_ops.proofs.Endings.{lacks-end}
use Rattle.sd_ops.proofs.undoing.rollback_step.Goals as goal

pub page_of-page-requires-clause-some : goal.page_of-page-requires-clause-some
page_of-page-requires-clause-some g c =
    let rig = c.args.c.now.rig in
    let n = c.keeps.ensures in
    let f = c.requires.fits in
    let a = c.requires.above in
    subst IsSome (sym (top-found c.args.t.now (g.G.Rig.seen rig) (g.G.Rig.leaves rig) (parts c.args.c.now) n.low n.high f.0 f.1 a.0 c.requires.up
    a.1.rolls a.1.above).1) refl

pub undo-requires-clause-good : goal.undo-requires-clause-good
undo-requires-clause-good g c =
    let rig = c.args.c.now.rig in
    let n = c.keeps.ensures in
    let f = c.requires.fits in
    let a = c.requires.above in (
      f.0.scene.state,
      a.0,
      f.1.good,
      rolls-to c.args.t.now (g.G.Rig.seen rig) (g.G.Rig.leaves rig) (parts c.args.c.now) n.low n.high f.0 f.1 a.0 c.requires.up a.1.rolls a.1.above,
    )

pub undo-requires-clause-holds : goal.undo-requires-clause-holds
undo-requires-clause-holds g c = λ o last.
    subst (λ (p : ℕ). owns (entry_at (parts c.args.c.now).directory p) c.args.t.now.inst ≡ true) (c.page_of-page.ensures o last) c.in-Ok.ensures.alone

pub returns-in-Ok-clause-served : goal.returns-in-Ok-clause-served
returns-in-Ok-clause-served g c =
    let tell : Telling _ = telling g.G.Rig.seen g.G.Rig.leaves g.G.Rig.moment g.G.Rig.since g.G.Rig.faults in
    let old = c.args.c.now in
    let rig = old.rig in
    let t = c.args.t.now in
    let n = c.keeps.ensures in
    let f = c.requires.fits in
    let a = c.requires.above in
    let e = c.undo.ensures in
    let top = top-found t (g.G.Rig.seen rig) (g.G.Rig.leaves rig) (parts old) n.low n.high f.0 f.1 a.0 c.requires.up a.1.rolls a.1.above in
    let held = subst (λ (p : ℕ). owns (entry_at (parts old).directory p) t.inst ≡ true) (c.page_of-page.ensures top.0 top.1) c.in-Ok.ensures.alone in
    let once : IsDistinct same_txn (ids (txns_at (parts old) t.inst)) =
    subst (λ (tb : Transactions). IsDistinct same_txn (ids tb)) c.txns.ensures c.keeps-2.ensures.once in
    step-served tell t old c.undo.new.c e.rig (λ img s. g.met.G.Rig.only_now rig img s) n.low n.high a.0 top.0 c.requires.up a.1 top.1 held once
    e.made (λ m to good rolls. subst (λ d. Good (g.G.Rig.seen d) (g.G.Rig.leaves d) Pending.Idle (parts c.undo.new.c) (undid t m)) e.rig
    (e.good m to good rolls))

pub returns-in-Err-clause-served : goal.returns-in-Err-clause-served
returns-in-Err-clause-served g c =
    let tell : Telling _ = telling g.G.Rig.seen g.G.Rig.leaves g.G.Rig.moment g.G.Rig.since g.G.Rig.faults in
    let old = c.args.c.now in
    let rig = old.rig in
    let t = c.args.t.now in
    let n = c.keeps.ensures in
    let f = c.requires.fits in
    let a = c.requires.above in
    let top = top-found t (g.G.Rig.seen rig) (g.G.Rig.leaves rig) (parts old) n.low n.high f.0 f.1 a.0 c.requires.up a.1.rolls a.1.above in
    undo-lacks tell t old (λ img s. g.met.G.Rig.only_now rig img s) n.low n.high a.0 top.0 c.requires.up a.1 top.1 c.in-Err.refusal
    (subst (λ (p : ℕ). LacksAlone t.inst p (parts old) c.in-Err.refusal) (c.page_of-page.ensures top.0 top.1) c.in-Err.ensures.lacks)

pub returns-in-Err-clause-there : goal.returns-in-Err-clause-there
returns-in-Err-clause-there g c = λ e.
    let same : c.in-Err.refusal ≡ R.Memory = cc in
    subst (LacksAlone c.args.t.now.inst c.page_of-page.result (parts c.args.c.now)) same c.in-Err.ensures.lacks

pub returns-in-Err-clause-works : goal.returns-in-Err-clause-works
returns-in-Err-clause-works g c = λ e.
    let same : c.in-Err.refusal ≡ R.Failed = cc in
    subst (LacksAlone c.args.t.now.inst c.page_of-page.result (parts c.args.c.now)) same c.in-Err.ensures.lacks

-- ---- what it leaves

pub returns-in-Ok-clause-untouched : goal.returns-in-Ok-clause-untouched
returns-in-Ok-clause-untouched g c =
    let t = c.args.t.now in
    let old = parts c.args.c.now in
    let new = parts c.undo.new.c in
    let n = c.keeps.ensures in
    let made = c.undo.ensures.made in
    (made.o, undone-top t old.due old new n.low made, undone-changed t old.due old new n.low made)

pub returns-in-Err-clause-untouched : goal.returns-in-Err-clause-untouched
returns-in-Err-clause-untouched g c =
    let old = parts c.args.c.now in
    lacks-end c.args.t.now.inst c.page_of-page.result old old old c.in-Err.refusal c.in-Err.ensures.lacks (locks-same old old refl)

pub returns-in-Ok-clause-logged : goal.returns-in-Ok-clause-logged
returns-in-Ok-clause-logged g c is =
    let old = parts c.args.c.now in
    undone-logged c.args.t.now old.due old (parts c.undo.new.c) c.keeps.ensures.low c.undo.ensures.made

pub returns-in-Err-clause-logged : goal.returns-in-Err-clause-logged
returns-in-Err-clause-logged g c is = absurd (cc)
