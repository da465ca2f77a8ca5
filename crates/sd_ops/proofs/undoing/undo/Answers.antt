use Rattle.std.proofs.Common.{◌≡◌, subst, ⊎_elim}
use Rattle.sd_base.specs.declared.refusal.Refusal.TheVariants as R
use Rattle.sd_model.specs.State.{turned}
use Rattle.sd_model.specs.declared.act.Life.{Life}
use Rattle.sd_txn.specs.Transactions.{Transactions, span_at}
use Rattle.sd_state.specs.Complexes.{parts}
use Rattle.sd_state.specs.Good.{Good}
use Rattle.sd_state.specs.Parts.{Parts, txns_at}
use Rattle.sd_state.specs.Values.{Pending}
use Rattle.sd_world.specs.Serving.{Telling, telling}
use Rattle.sd_ops.specs.Rolling.{IsDue, IsOut}
use Rattle.sd_ops.proofs.Undone.{mark-served, nothing-served, reached, undo-out}
use Rattle.std.specs.Prelude.{None, Some}
use Rattle.sd_txn.specs.declared.state.TxnState.{TxnState}
use Rattle.sd_ops.proofs.Leaving.{only-locks, txns-untouched}
use Rattle.sd_ops.proofs.Endings.{above-goes_on, end-undo, ends-so, is-span, other-goes_on, out-end}
use Rattle.sd_ops.proofs.undoing.undo.Goals as goal

pub returns-in-Err-clause-served : goal.returns-in-Err-clause-served
returns-in-Err-clause-served g c =
    let tell : Telling _ = telling g.G.Rig.seen g.G.Rig.leaves g.G.Rig.moment g.G.Rig.since g.G.Rig.faults in
    let old = c.args.c.now in
    let n = c.keeps.ensures in
    let k = c.calm.ensures in
    undo-out tell c.args.t.now old c.calm.new.c k.rig (λ img s. g.met.G.Rig.only_now old.rig img s) n.low n.high c.in-Err.refusal
    c.in-Err.ensures.out (record { rest = k.rest; locks = k.locks; waits = k.waits })

pub returns-in-Err-clause-there : goal.returns-in-Err-clause-there
returns-in-Err-clause-there g c = λ e.
    let same : c.in-Err.refusal ≡ R.Memory = cc in subst (IsOut c.args.t.now (parts c.args.c.now)) same c.in-Err.ensures.out

pub returns-in-Err-clause-down : goal.returns-in-Err-clause-down
returns-in-Err-clause-down g c = λ e.
    let same : c.in-Err.refusal ≡ R.Failed = cc in
    absurd (subst (IsOut c.args.t.now (parts c.args.c.now)) same c.in-Err.ensures.out)

pub returns-in-Ok-Nothing-clause-served : goal.returns-in-Ok-Nothing-clause-served
returns-in-Ok-Nothing-clause-served g c =
    let tell : Telling _ = telling g.G.Rig.seen g.G.Rig.leaves g.G.Rig.moment g.G.Rig.since g.G.Rig.faults in
    let old = c.args.c.now in
    let n = c.keeps.ensures in
    let k = c.calm-in-Ok-Nothing.ensures in
    let d = subst (IsDue c.args.t.now (parts old)) c.in-Ok-Nothing.field-0-is c.in-Ok-Nothing.ensures.due in
    nothing-served tell c.args.t.now old c.calm-in-Ok-Nothing.new.c k.rig (λ img s. g.met.G.Rig.only_now old.rig img s) n.low n.high d.0
    c.in-Ok-Nothing.ensures.up d.1 d.2 (record { rest = k.rest; locks = k.locks; waits = k.waits })

pub resume-requires-clause-reached : goal.resume-requires-clause-reached
resume-requires-clause-reached g c =
    let rig = c.args.c.now.rig in
    let n = c.keeps.ensures in
    let f = c.requires.fits in
    let d = subst (IsDue c.args.t.now (parts c.args.c.now)) c.in-Ok-Mark.field-0-is c.in-Ok-Mark.ensures.due in
    (d.0, d.1, reached c.args.t.now (g.G.Rig.seen rig) (g.G.Rig.leaves rig) (parts c.args.c.now) n.low n.high f.0 f.1 d.0 c.in-Ok-Mark.ensures.up d.1 d.2)

pub returns-in-Ok-Mark-clause-served : goal.returns-in-Ok-Mark-clause-served
returns-in-Ok-Mark-clause-served g c =
    let tell : Telling _ = telling g.G.Rig.seen g.G.Rig.leaves g.G.Rig.moment g.G.Rig.since g.G.Rig.faults in
    let old = c.args.c.now in
    let new = c.resume.new.self in
    let t = c.args.t.now in
    let n = c.keeps.ensures in
    let d = subst (IsDue c.args.t.now (parts c.args.c.now)) c.in-Ok-Mark.field-0-is c.in-Ok-Mark.ensures.due in
    let e = c.resume.ensures in
    let table : Transactions = txns_at (parts new) t.inst in
    mark-served tell t old new e.rig (λ img s. g.met.G.Rig.only_now old.rig img s) n.low n.high d.0 table c.in-Ok-Mark.ensures.up d.1 d.2 e.parts e.row
    e.others
    (λ m good. subst (λ (p : Parts). Good (g.G.Rig.seen old.rig) (g.G.Rig.leaves old.rig) Pending.Idle p (turned t Life.Running m)) e.parts
    (subst (λ d. Good (g.G.Rig.seen d) (g.G.Rig.leaves d) Pending.Idle (parts new) (turned t Life.Running m)) e.rig (e.good m good)))

-- ---- what it leaves, the record that it puts, and its device calls

pub returns-in-Err-clause-untouched : goal.returns-in-Err-clause-untouched
returns-in-Err-clause-untouched g c =
    let t = c.args.t.now in
    let old = parts c.args.c.now in
    let new = parts c.calm.new.c in
    out-end t t.inst old old new c.in-Err.refusal c.in-Err.ensures.out (only-locks old new c.calm.ensures.rest)

pub returns-in-Err-clause-logged : goal.returns-in-Err-clause-logged
returns-in-Err-clause-logged g c is = absurd (cc)

pub returns-in-Ok-Nothing-clause-untouched : goal.returns-in-Ok-Nothing-clause-untouched
returns-in-Ok-Nothing-clause-untouched g c =
    (only-locks (parts c.args.c.now) (parts c.calm-in-Ok-Nothing.new.c) c.calm-in-Ok-Nothing.ensures.rest).untouched

pub returns-in-Ok-Nothing-clause-logged : goal.returns-in-Ok-Nothing-clause-logged
returns-in-Ok-Nothing-clause-logged g c is = absurd (cc)

pub returns-in-Ok-Nothing-clause-tick : goal.returns-in-Ok-Nothing-clause-tick
returns-in-Ok-Nothing-clause-tick g c ends =
    let old = parts c.args.c.now in
    let d = subst (IsDue c.args.t.now old) c.in-Ok-Nothing.field-0-is c.in-Ok-Nothing.ensures.due in
    absurd (other-goes_on c.args.t.now d.0 old d.1 (d.2 None) ends)

pub returns-in-Ok-Step-clause-tick : goal.returns-in-Ok-Step-clause-tick
returns-in-Ok-Step-clause-tick g c ends =
    let old = parts c.args.c.now in
    let d = subst (IsDue c.args.t.now old) c.in-Ok-Step.field-0-is c.in-Ok-Step.ensures.due in
    absurd (above-goes_on c.args.t.now d.0 old d.1 ends)

pub returns-in-Ok-Mark-clause-untouched : goal.returns-in-Ok-Mark-clause-untouched
returns-in-Ok-Mark-clause-untouched g c =
    let i = c.args.t.now.inst in
    let new = parts c.resume.new.self in
    txns-untouched i (txns_at new i) (parts c.args.c.now) new c.resume.ensures.parts

pub returns-in-Ok-Mark-clause-logged : goal.returns-in-Ok-Mark-clause-logged
returns-in-Ok-Mark-clause-logged g c is = absurd (cc)

pub returns-in-Ok-Mark-clause-tick : goal.returns-in-Ok-Mark-clause-tick
returns-in-Ok-Mark-clause-tick g c ends =
    let old = parts c.args.c.now in
    let d = subst (IsDue c.args.t.now old) c.in-Ok-Mark.field-0-is c.in-Ok-Mark.ensures.due in
    absurd (other-goes_on c.args.t.now (TxnState.Rolling (Some d.0)) old d.1 (λ e. absurd (cc)) ends)

pub returns-in-Ok-End-clause-untouched : goal.returns-in-Ok-End-clause-untouched
returns-in-Ok-End-clause-untouched g c = end-undo c.args.t.now c.finish.result (parts c.args.c.now) (parts c.finish.new.c)
    c.finish.ensures.untouched c.finish.ensures.ends

pub returns-in-Ok-End-clause-logged : goal.returns-in-Ok-End-clause-logged
returns-in-Ok-End-clause-logged g c is = absurd (ends-so c.finish.result is c.finish.ensures.ends)

pub returns-in-Ok-End-clause-tick : goal.returns-in-Ok-End-clause-tick
returns-in-Ok-End-clause-tick g c ends = c.finish.ensures.tick ends.there

pub returns-in-Ok-End-clause-still : goal.returns-in-Ok-End-clause-still
returns-in-Ok-End-clause-still g c not =
    let t = c.args.t.now in
    let old = parts c.args.c.now in
    let d = subst (IsDue t old) c.in-Ok-End.field-0-is c.in-Ok-End.ensures.due in
    ⊎_elim
    (λ none. c.finish.ensures.bare none)
    (λ some. absurd (not (record { up = c.in-Ok-End.ensures.up; rolls = d.0; empty = d.1; there = some })))
    (is-span (span_at (txns_at old t.inst) t))
