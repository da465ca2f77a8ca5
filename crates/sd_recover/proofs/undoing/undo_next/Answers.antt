use Rattle.std.proofs.Common.{◌≡◌, ⊎_elim, ℕ, suc, false, true, refl, sym, ap, ◌∙◌, subst}
use Rattle.std.specs.Prelude.{Result, Err, Option}
use Rattle.std.specs.List.{IsDistinct}
use Rattle.std.proofs.lemmas.Result.{err_from_is_err_and}
use Rattle.sd_base.specs.Ids.{same_txn}
use Rattle.sd_base.specs.declared.refusal.Refusal.{Refusal}
use Rattle.sd_base.specs.declared.refusal.Refusal.TheVariants as R
use Rattle.sd_chain.specs.Records.{home}
use Rattle.sd_fits.specs.Serving.{Serving}
use Rattle.sd_model.specs.declared.event.Event.TheVariants.{RecoverStep}
use Rattle.sd_model.specs.declared.event.Reply.TheVariants as reply
use Rattle.sd_pagelock.specs.Directory.{entry_at}
use Rattle.sd_pagelock.specs.Places.{owns}
use Rattle.sd_state.specs.Complexes.{parts}
use Rattle.sd_chain.specs.Logs.{all_at}
use Rattle.sd_state.specs.Parts.{Parts, log_at, txns_at}
use Rattle.sd_state.specs.Tables.{RowIsLogged, tells_log}
use Rattle.sd_state.specs.Values.{Pending}
use Rattle.sd_update.proofs.Deciding.{has-row}
use Rattle.sd_txn.specs.Transactions.{Transaction, Transactions, ids}
use Rattle.sd_txn.specs.declared.state.TxnState.{TxnState}
use Rattle.sd_world.specs.Serving.{Telling, answered, telling}
use Rattle.sd_recover.specs.Recovering.{IsAway}
use Rattle.sd_recover.specs.Tasks.{tasks_in}
use Rattle.sd_recover.proofs.Doing.{undo-does}
use Rattle.sd_recover.proofs.Fallen.{undo-touches}
use Rattle.sd_recover.proofs.Left.{row-some, undone-fewer}
use Rattle.sd_recover.proofs.Away.{page-away}
use Rattle.sd_recover.proofs.Owns.{its-top}
use Rattle.sd_recover.proofs.Steps.{force-spares, rises}
use Rattle.sd_recover.proofs.UndoFails.{left-due, left-serves}
use Rattle.sd_recover.proofs.UndoSteps.{undo-step}
use Rattle.sd_recover.proofs.Wanting.{Wants}
use Rattle.sd_recover.proofs.undoing.undo_next.Goals as goal

never : false ≡ true → ⊥
never e = cc

err-is : (a b : Refusal) → a ≡ b → ◌≡◌ {A = Result (Unit {0}) Refusal} (Err a) (Err b)
err-is a b e = ap (λ (x : Refusal). Err x) e

pub returns-in_err-alone-clause-served : goal.returns-in_err-alone-clause-served
returns-in_err-alone-clause-served g c =
    let tell : Telling _ = telling g.G.Rig.seen g.G.Rig.leaves g.G.Rig.moment g.G.Rig.since g.G.Rig.faults in
    let old = c.args.c.now in
    let t = c.args.t.now in
    let n = c.keeps.ensures in
    let r = c.requires in
    let p = err_from_is_err_and c.from_residual.result c.from_residual.ensures.1 in
    subst (λ (x : Result (Unit {0}) Refusal). Serving tell (RecoverStep (home t)) (answered (λ _. reply.Step) x) old old)
    (sym (p.1 ∙ ap (λ (k : Refusal). Err k) p.2))
    (page-away tell t c.args.by old (λ img since. g.met.G.Rig.only_now old.rig img since) n.low n.high r.recovers r.there r.loser
    r.last.0 r.last.1 c.in_err-alone.field-0.0
    (subst (λ (q : ℕ). IsAway c.args.by q (parts old) c.in_err-alone.field-0.0) r.last.2 c.in_err-alone.ensures.away))

away-failed : (by p : ℕ) (c : Parts) (n : Refusal) → IsAway by p c n → n ≡ R.Failed → ⊥
away-failed by p c n away e = subst (IsAway by p c) e away

err-of : (a b : Refusal) → ◌≡◌ {A = Result (Unit {0}) Refusal} (Err a) (Err b) → a ≡ b
err-of a b e = cc

pub returns-in_err-alone-clause-fell : goal.returns-in_err-alone-clause-fell
returns-in_err-alone-clause-fell g c = λ e.
    let p = err_from_is_err_and c.from_residual.result c.from_residual.ensures.1 in
    absurd (away-failed c.args.by c.args.page (parts c.args.c.now) c.in_err-alone.field-0.0 c.in_err-alone.ensures.away
    (err-of c.in_err-alone.field-0.0 R.Failed (sym (p.1 ∙ ap (λ (k : Refusal). Err k) p.2) ∙ e)))

away-memory : (by p : ℕ) (c : Parts) (n : Refusal) → IsAway by p c n → n ≡ R.Memory → ⊥
away-memory by p c n away e = subst (IsAway by p c) e away

pub returns-in_err-alone-clause-short : goal.returns-in_err-alone-clause-short
returns-in_err-alone-clause-short g c = λ e.
    let p = err_from_is_err_and c.from_residual.result c.from_residual.ensures.1 in
    absurd (away-memory c.args.by c.args.page (parts c.args.c.now) c.in_err-alone.field-0.0 c.in_err-alone.ensures.away
    (err-of c.in_err-alone.field-0.0 R.Memory (sym (p.1 ∙ ap (λ (k : Refusal). Err k) p.2) ∙ e)))

pub returns-in_err-alone-clause-awaits : goal.returns-in_err-alone-clause-awaits
returns-in_err-alone-clause-awaits g c =
    let old : Parts = parts c.args.c.now in
    let by : ℕ = c.args.by in
    let page : ℕ = c.args.page in
    let p = err_from_is_err_and c.from_residual.result c.from_residual.ensures.1 in
    subst (λ (x : Result (Unit {0}) Refusal). Wants x (λ place. (old ≡ old) × IsAway by page old (R.NeedPage place)))
    (sym (p.1 ∙ ap (λ (k : Refusal). Err k) p.2))
    (λ place is. (refl, subst (IsAway by page old) is c.in_err-alone.ensures.away))

pub returns-then-is_memory-clause-fell : goal.returns-then-is_memory-clause-fell
returns-then-is_memory-clause-fell g c = λ e. absurd (cc)

pub returns-then-is_memory-clause-short : goal.returns-then-is_memory-clause-short
returns-then-is_memory-clause-short g c = λ x.
    c.in-Err.ensures.memory (err-is c.in-Err.refusal R.Memory (c.if-is_memory.ensures.0 refl))

pub returns-then-is_memory-clause-awaits : goal.returns-then-is_memory-clause-awaits
returns-then-is_memory-clause-awaits g c = λ place is. absurd (cc)

pub returns-else-is_memory-clause-fell : goal.returns-else-is_memory-clause-fell
returns-else-is_memory-clause-fell g c = λ x.
    let n = c.keeps.ensures in
    let k = c.keeps-2.ensures in
    let r = c.requires in
    let e = c.in-Err.ensures in
    let failed = err-is c.in-Err.refusal R.Failed (⊎_elim (λ y. y) (λ y. absurd (never (c.if-is_memory.ensures.1 y))) e.only) in
    undo-touches c.args.t.now c.args.by c.args.page (parts c.args.c.now) (parts c.undo_forced.new.c) (parts c.down.new.c) n.low n.high k.low k.high
    r.fits.1.good.shape r.last.0 r.last.1 r.last.2 c.down.ensures.parts c.down.ensures.fallen (e.left failed)

pub returns-else-is_memory-clause-short : goal.returns-else-is_memory-clause-short
returns-else-is_memory-clause-short g c = λ e. absurd (cc)

pub returns-else-is_memory-clause-awaits : goal.returns-else-is_memory-clause-awaits
returns-else-is_memory-clause-awaits g c = λ place is. absurd (cc)

pub undo_forced-requires-clause-may : goal.undo_forced-requires-clause-may
undo_forced-requires-clause-may g c =
    let old = c.args.c.now in
    let t = c.args.t.now in
    let n = c.keeps.ensures in
    let k = c.keeps-2.ensures in
    let r = c.requires in
    let row = has-row (txns_at (parts old) (home t)) t TxnState.Retained r.loser in
    record {
      idle = r.fits.1.idle;
      recovers = r.recovers;
      settled = r.there.0 (home t) n.high;
      own_settled = r.there.0 c.args.by k.high;
      x = row.x;
      o = r.last.0;
      row = row.row;
      loser = row.state;
      last = its-top (txns_at (parts old) (home t)) t row.x row.row r.last.0 r.last.1;
      held = subst (λ (q : ℕ). owns (entry_at (parts old).directory q) c.args.by ≡ true) r.last.2 c.in_ok-alone.ensures.alone;
    }

pub returns-in-Ok-clause-served : goal.returns-in-Ok-clause-served
returns-in-Ok-clause-served g c =
    let tell : Telling _ = telling g.G.Rig.seen g.G.Rig.leaves g.G.Rig.moment g.G.Rig.since g.G.Rig.faults in
    let old = c.args.c.now in
    let t = c.args.t.now in
    let n = c.keeps.ensures in
    let k = c.keeps-2.ensures in
    let r = c.requires in
    let e = c.in-Ok.ensures in
    let u = e.undone in
    let held = subst (λ (q : ℕ). owns (entry_at (parts old).directory q) c.args.by ≡ true) r.last.2 c.in_ok-alone.ensures.alone in
    let once : IsDistinct same_txn (ids (txns_at (parts old) (home t))) =
    subst (λ (tb : Transactions). IsDistinct same_txn (ids tb)) c.txns.ensures c.keeps-3.ensures.once in (
      λ w f. undo-step tell c.args.by t old c.undo_forced.new.c n.low n.high k.low k.high r.recovers r.there r.loser r.last.0 r.last.1 held once
          e.good e.time e.images e.disk e.masters u.owes u.owes_is u.between u.undone u.forced w f,
      e.quiet,
    )

pub returns-then-is_memory-clause-served : goal.returns-then-is_memory-clause-served
returns-then-is_memory-clause-served g c =
    let tell : Telling _ = telling g.G.Rig.seen g.G.Rig.leaves g.G.Rig.moment g.G.Rig.since g.G.Rig.faults in
    let old = c.args.c.now in
    let t = c.args.t.now in
    let n = c.keeps.ensures in
    let k = c.keeps-2.ensures in
    let r = c.requires in
    let e = c.in-Err.ensures in
    let memory = err-is c.in-Err.refusal R.Memory (c.if-is_memory.ensures.0 refl) in
    force-spares tell (home t) c.args.by old n.low n.high r.recovers c.undo_forced.new.c e.good e.time e.images c.args.by k.low k.high
    (r.there.0 c.args.by k.high) e.disk e.masters (e.memory memory) (e.short memory)

pub down-requires-clause-good : goal.down-requires-clause-good
down-requires-clause-good g c =
    let f = c.requires.fits in (Pending.Idle, f.0.scene.state, c.in-Err.ensures.good f.0.scene.state f.1.good)

pub down-requires-clause-due : goal.down-requires-clause-due
down-requires-clause-due g c =
    let tell : Telling _ = telling g.G.Rig.seen g.G.Rig.leaves g.G.Rig.moment g.G.Rig.since g.G.Rig.faults in
    let old = c.args.c.now in
    let t = c.args.t.now in
    let n = c.keeps.ensures in
    let k = c.keeps-2.ensures in
    let r = c.requires in
    let e = c.in-Err.ensures in
    let held = subst (λ (q : ℕ). owns (entry_at (parts old).directory q) c.args.by ≡ true) r.last.2 c.in_ok-alone.ensures.alone in
    let once : IsDistinct same_txn (ids (txns_at (parts old) (home t))) =
    subst (λ (tb : Transactions). IsDistinct same_txn (ids tb)) c.txns.ensures c.keeps-3.ensures.once in
    let failed = err-is c.in-Err.refusal R.Failed (⊎_elim (λ x. x) (λ x. absurd (never (c.if-is_memory.ensures.1 x))) e.only) in
    left-due tell c.args.by t old c.undo_forced.new.c n.low n.high k.low k.high r.recovers r.there r.loser r.last.0 r.last.1 held once
    e.good e.time e.images e.disk e.masters (e.left failed) r.fits.0 r.fits.1

pub returns-else-is_memory-clause-served : goal.returns-else-is_memory-clause-served
returns-else-is_memory-clause-served g c =
    let tell : Telling _ = telling g.G.Rig.seen g.G.Rig.leaves g.G.Rig.moment g.G.Rig.since g.G.Rig.faults in
    let old = c.args.c.now in
    let mid = c.undo_forced.new.c in
    let t = c.args.t.now in
    let n = c.keeps.ensures in
    let k = c.keeps-2.ensures in
    let r = c.requires in
    let e = c.in-Err.ensures in
    let d = c.down.ensures in
    let held = subst (λ (q : ℕ). owns (entry_at (parts old).directory q) c.args.by ≡ true) r.last.2 c.in_ok-alone.ensures.alone in
    let once : IsDistinct same_txn (ids (txns_at (parts old) (home t))) =
    subst (λ (tb : Transactions). IsDistinct same_txn (ids tb)) c.txns.ensures c.keeps-3.ensures.once in
    let failed = err-is c.in-Err.refusal R.Failed (⊎_elim (λ x. x) (λ x. absurd (never (c.if-is_memory.ensures.1 x))) e.only) in (
      λ w f. left-serves tell c.args.by t old mid n.low n.high k.low k.high r.recovers r.there r.loser r.last.0 r.last.1 held once
          e.good e.time e.images e.disk e.masters (e.left failed) w f c.down.new.c d.rig d.parts d.fallen d.good,
      rises tell old.rig mid.rig c.down.new.c.rig d.rig (e.cause failed),
    )

pub returns-in-Ok-clause-fewer : goal.returns-in-Ok-clause-fewer
returns-in-Ok-clause-fewer g c =
    let old = c.args.c.now in
    let t = c.args.t.now in
    let n = c.keeps.ensures in
    let f = c.requires.fits in
    let u = c.in-Ok.ensures.undone in
    let h = u.undone in
    let once : IsDistinct same_txn (ids (txns_at (parts old) (home t))) =
    subst (λ (tb : Transactions). IsDistinct same_txn (ids tb)) c.txns.ensures c.keeps-3.ensures.once in
    let there = row-some h.x t (all_at (log_at (parts old) (home t))) h.o h.last
    (subst (λ (q : Option Transaction). RowIsLogged q t (all_at (log_at (parts old) (home t)))) h.row
    ((f.1.good.told (home t) n.low n.high (ap tells_log c.requires.recovers) (c.requires.there.0 (home t) n.high)).rows t refl)) in
    ap (λ (q : Parts). suc (tasks_in (txns_at q (home t)))) u.forced
    ∙ undone-fewer (txns_at (parts old) (home t)) (txns_at u.between (home t)) t h.x h.o _ once h.undone.row h.last there

pub returns-in-Ok-clause-did : goal.returns-in-Ok-clause-did
returns-in-Ok-clause-did g c =
    let r = g.G.Rig in
    let old = c.args.c.now in
    let new = c.undo_forced.new.c in
    let t = c.args.t.now in
    let n = c.keeps.ensures in
    let f = c.requires.fits in
    let q = c.requires in
    let u = c.in-Ok.ensures.undone in
    let h = u.undone in
    let once : IsDistinct same_txn (ids (txns_at (parts old) (home t))) =
    subst (λ (tb : Transactions). IsDistinct same_txn (ids tb)) c.txns.ensures c.keeps-3.ensures.once in
    let there = row-some h.x t (all_at (log_at (parts old) (home t))) h.o h.last
    (subst (λ (q : Option Transaction). RowIsLogged q t (all_at (log_at (parts old) (home t)))) h.row
    ((f.1.good.told (home t) n.low n.high (ap tells_log c.requires.recovers) (c.requires.there.0 (home t) n.high)).rows t refl)) in
    undo-does t c.args.by c.args.page (r.seen old.rig) (r.seen new.rig) (parts old) (parts new) n.low n.high c.keeps-2.ensures.low
    f.1.good.shape.logs (q.there.0 (home t) n.high) q.last.0 q.last.1 q.last.2 c.in_ok-alone.ensures.alone u
    (ap (λ (q : Parts). suc (tasks_in (txns_at q (home t)))) u.forced
    ∙ undone-fewer (txns_at (parts old) (home t)) (txns_at u.between (home t)) t h.x h.o _ once h.undone.row h.last there)
