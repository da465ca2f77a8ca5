use Rattle.std.proofs.Common.{◌≡◌, ap, ◌∙◌, subst}
use Rattle.std.specs.Prelude.{None}
use Rattle.sd_base.specs.Waits.{with_wait}
use Rattle.sd_base.specs.declared.refusal.Refusal.TheVariants as R
use Rattle.sd_model.specs.State.{turned}
use Rattle.sd_model.specs.declared.act.Life.{Life}
use Rattle.sd_reclock.specs.Locks.{LockTable, waits}
use Rattle.sd_txn.specs.Transactions.{Transactions}
use Rattle.sd_state.specs.Complexes.{parts}
use Rattle.sd_state.specs.Good.{Good}
use Rattle.sd_state.specs.Parts.{Parts, txns_at}
use Rattle.sd_state.specs.Values.{Pending}
use Rattle.sd_state.specs.Working.{with_locks}
use Rattle.sd_world.specs.Serving.{Telling, telling}
use Rattle.sd_ops.specs.Rolling.{StaysPut}
use Rattle.sd_ops.proofs.Turned.{back-out, back-served, may-roll}
use Rattle.sd_ops.proofs.Leaving.{only-locks, touched-locks, txns-untouched}
use Rattle.sd_fits.specs.Untouched.{none_of}
use Rattle.sd_ops.proofs.turning.back_to.Goals as goal

pub turn-requires-clause-may : goal.turn-requires-clause-may
turn-requires-clause-may g c =
    let rig = c.args.c.now.rig in
    let n = c.keeps.ensures in
    may-roll c.args.t.now (g.G.Rig.seen rig) (g.G.Rig.leaves rig) (parts c.args.c.now) n.low n.high c.requires.fits.0 c.requires.fits.1
    c.args.mark.now c.in-Ok.goal c.in-Ok.ensures.up c.in-Ok.ensures.goal

pub returns-in-Ok-clause-served : goal.returns-in-Ok-clause-served
returns-in-Ok-clause-served g c =
    let tell : Telling _ = telling g.G.Rig.seen g.G.Rig.leaves g.G.Rig.moment g.G.Rig.since g.G.Rig.faults in
    let old = c.args.c.now in
    let mid = c.turn.new.c in
    let new = c.calm.new.c in
    let t = c.args.t.now in
    let n = c.keeps.ensures in
    let e = c.turn.ensures in
    let k = c.calm.ensures in
    let table : Transactions = txns_at (parts mid) t.inst in
    let same : (parts mid).locks ≡ (parts old).locks = ap (λ (p : Parts). p.locks) e.parts in
    back-served tell t c.args.mark.now old new (k.rig ∙ e.rig) (λ img s. g.met.G.Rig.only_now old.rig img s) n.low n.high c.in-Ok.goal table
    c.in-Ok.ensures.up c.in-Ok.ensures.goal (k.rest ∙ ap (with_locks (parts new).locks) e.parts)
    (record {
      row = e.row;
      others = e.others;
      same_locks = k.locks ∙ ap (λ (l : LockTable). l.locks) same;
      waits = λ u. k.waits u ∙ ap (λ (l : LockTable). with_wait t None (waits l) u) same;
    })
    (λ m good. subst (λ (p : Parts). Good (g.G.Rig.seen old.rig) (g.G.Rig.leaves old.rig) Pending.Idle p (turned t (Life.Rolling c.in-Ok.goal) m)) e.parts
    (subst (λ d. Good (g.G.Rig.seen d) (g.G.Rig.leaves d) Pending.Idle (parts mid) (turned t (Life.Rolling c.in-Ok.goal) m)) e.rig (e.good m good)))

pub returns-in-Err-clause-served : goal.returns-in-Err-clause-served
returns-in-Err-clause-served g c =
    let tell : Telling _ = telling g.G.Rig.seen g.G.Rig.leaves g.G.Rig.moment g.G.Rig.since g.G.Rig.faults in
    let old = c.args.c.now in
    let n = c.keeps.ensures in
    let k = c.calm-in-Err.ensures in
    back-out tell c.args.t.now c.args.mark.now old c.calm-in-Err.new.c k.rig (λ img s. g.met.G.Rig.only_now old.rig img s) n.low n.high
    c.in-Err.refusal c.in-Err.ensures.stays (record { rest = k.rest; locks = k.locks; waits = k.waits })

pub returns-in-Err-clause-there : goal.returns-in-Err-clause-there
returns-in-Err-clause-there g c = λ e.
    let same : c.in-Err.refusal ≡ R.Memory = cc in
    subst (StaysPut c.args.t.now c.args.mark.now (parts c.args.c.now)) same c.in-Err.ensures.stays

pub returns-in-Ok-clause-untouched : goal.returns-in-Ok-clause-untouched
returns-in-Ok-clause-untouched g c =
    let i = c.args.t.now.inst in
    let old : Parts = parts c.args.c.now in
    let mid : Parts = parts c.turn.new.c in
    touched-locks none_of none_of old mid (parts c.calm.new.c) (txns-untouched i (txns_at mid i) old mid c.turn.ensures.parts) c.calm.ensures.rest

pub returns-in-Err-clause-untouched : goal.returns-in-Err-clause-untouched
returns-in-Err-clause-untouched g c = only-locks (parts c.args.c.now) (parts c.calm-in-Err.new.c) c.calm-in-Err.ensures.rest
