use Rattle.std.proofs.Common.{◌≡◌, ◌≤◌, true, length, sym, ap, ◌∙◌, refl, subst, arith}
use Rattle.std.specs.Prelude.{None, Some, Result, Ok}
use Rattle.std.proofs.lemmas.Result.{err_from_is_err_and}
use Rattle.sd_base.specs.declared.ids.Rid.{Rid}
use Rattle.sd_base.specs.declared.place.Mode.TheVariants.{Excl}
use Rattle.sd_base.specs.declared.place.Status.TheVariants as S
use Rattle.sd_base.specs.declared.refusal.Refusal.TheVariants as R
use Rattle.sd_model.specs.declared.event.Event.TheVariants as event
use Rattle.sd_model.specs.declared.event.Reply.TheVariants as reply
use Rattle.sd_pagelock.specs.Directory.{entry_at}
use Rattle.sd_pagelock.specs.Places.{holds_as}
use Rattle.sd_reclock.specs.Answers.{IsFree, IsRefused}
use Rattle.sd_reclock.specs.Locks.{LockTable, stands, wait_for, waits}
use Rattle.sd_update.specs.Changing.{FitsThere, image_for, change_of}
use Rattle.sd_state.specs.Complexes.{parts}
use Rattle.sd_state.specs.Parts.{Parts, status_at, txns_at}
use Rattle.sd_txn.specs.Transactions.{state_at}
use Rattle.sd_txn.specs.declared.state.TxnState.{TxnState}
use Rattle.sd_world.specs.Serving.{refused}
use Rattle.sd_fits.proofs.Refused.{unlike}
use Rattle.sd_ops.specs.Halves.{HalfServed, IsOff}
use Rattle.sd_ops.specs.Vacancies.{IsFullFor, IsVacant, LacksPlace}
use Rattle.sd_ops.proofs.Filled.{err-ok, filled-half, ok-not_full, put-not-full, same-refusal, unfilled-half}
use Rattle.sd_ops.proofs.Filling.{insert-asked, insert-away, insert-long, insert-work}
use Rattle.sd_ops.proofs.Vacating.{asked-small, not-long}
use Rattle.sd_ops.proofs.Work.{err-half, off-half}
use Rattle.sd_base.specs.declared.refusal.Refusal.{Refusal}
use Rattle.sd_ops.specs.Logged.{FillLeaves, LacksFor, PutLeaves}
use Rattle.sd_ops.specs.Leaving.{OnlyLocks}
use Rattle.sd_ops.proofs.Leaving.{locks-same}
use Rattle.sd_ops.proofs.Logging.{asked-fill, away-fill, by-err, notes-only, off-fill, unput-fill}
use Rattle.sd_ops.proofs.inserting.fill.Goals as goal

pub returns-in_err-at_work-clause-half : goal.returns-in_err-at_work-clause-half
returns-in_err-at_work-clause-half g c =
    let rig = c.args.c.now.rig in
    let ev = event.Insert c.args.t.now c.args.p c.args.value.now c.args.capacity in
    let x : Parts = parts c.args.c.now in
    let n = c.in_err-at_work.field-0.0 in
    let e = err_from_is_err_and c.from_residual.result c.from_residual.ensures.1 in (
      None,
      err-half (λ (r : Rid). reply.At r) c.from_residual.result e.0 n (g.G.Rig.seen rig) (g.G.Rig.leaves rig) None ev x x e.1 e.2
          (off-half ev c.args.t.now (insert-work c.args.t.now c.args.p c.args.value.now c.args.capacity) (g.G.Rig.seen rig)
          (g.G.Rig.leaves rig) x c.at_work.ensures.low c.at_work.ensures.high n c.in_err-at_work.ensures.off),
    )

pub returns-then-is_long-clause-half : goal.returns-then-is_long-clause-half
returns-then-is_long-clause-half g c =
    let rig = c.args.c.now.rig in (
      None,
      insert-long c.args.t.now c.args.p c.args.value.now c.args.capacity (g.G.Rig.seen rig) (g.G.Rig.leaves rig)
          (parts c.args.c.now)
          c.at_work.ensures.low c.at_work.ensures.high c.in_ok-at_work.ensures.up c.in_ok-at_work.ensures.runs
          (c.is_long.ensures.0 c.if-is_long.true),
    )

pub returns-in_err-vacancy-clause-half : goal.returns-in_err-vacancy-clause-half
returns-in_err-vacancy-clause-half g c =
    let rig = c.args.c.now.rig in
    let ev = event.Insert c.args.t.now c.args.p c.args.value.now c.args.capacity in
    let x : Parts = parts c.args.c.now in
    let n = c.in_err-vacancy.field-0.0 in
    let e = err_from_is_err_and c.from_residual-in_err-vacancy.result c.from_residual-in_err-vacancy.ensures.1 in (
      None,
      err-half (λ (r : Rid). reply.At r) c.from_residual-in_err-vacancy.result e.0 n (g.G.Rig.seen rig)
          (g.G.Rig.leaves rig) None ev x x
          e.1 e.2
          (insert-away c.args.t.now c.args.p c.args.value.now c.args.capacity (g.G.Rig.seen rig) (g.G.Rig.leaves rig) x
          c.at_work.ensures.low c.at_work.ensures.high c.in_ok-at_work.ensures.up c.in_ok-at_work.ensures.runs
          (λ long. unlike c.if-is_long.false (c.is_long.ensures.1 long)) n c.in_err-vacancy.ensures.lacks),
    )

pub returns-in_err-ask-clause-half : goal.returns-in_err-ask-clause-half
returns-in_err-ask-clause-half g c =
    let rig = c.args.c.now.rig in
    let ev = event.Insert c.args.t.now c.args.p c.args.value.now c.args.capacity in
    let x : Parts = parts c.args.c.now in
    let r : Rid = record { page = c.args.p; slot = c.in_ok-vacancy.vacancy.slot } in
    let n = c.in_err-ask.field-0.0 in
    let e = err_from_is_err_and c.from_residual-in_err-ask.result c.from_residual-in_err-ask.ensures.1 in (
      Some r,
      err-half (λ (q : Rid). reply.At q) c.from_residual-in_err-ask.result e.0 n (g.G.Rig.seen rig) (g.G.Rig.leaves rig)
          (Some r) ev x
          (parts c.ask.new.c) e.1 e.2
          (insert-asked c.args.t.now c.args.p c.args.value.now c.args.capacity (g.G.Rig.seen rig) (g.G.Rig.leaves rig) x
          c.at_work.ensures.low c.at_work.ensures.high c.in_ok-at_work.ensures.up c.in_ok-at_work.ensures.runs
          (λ long. unlike c.if-is_long.false (c.is_long.ensures.1 long)) c.in_ok-vacancy.ensures.held
          c.in_ok-vacancy.vacancy.slot c.in_ok-vacancy.vacancy.capacity c.in_ok-vacancy.ensures.vacant
          (parts c.ask.new.c) n c.in_err-ask.ensures.refused c.in_err-ask.ensures.noted),
    )

pub put-requires-clause-free : goal.put-requires-clause-free
put-requires-clause-free g c = subst
    (λ (l : LockTable). IsFree (stands l) c.args.t.now (wait_for
    (record { page = c.args.p; slot = c.in_ok-vacancy.vacancy.slot }) Excl))
    (sym (ap (λ (x : Parts). x.locks) c.in_ok-ask.ensures.same)) c.in_ok-ask.ensures.free

pub put-requires-clause-small : goal.put-requires-clause-small
put-requires-clause-small g c = c.in_ok-vacancy.ensures.vacant.small

pub put-requires-clause-takes : goal.put-requires-clause-takes
put-requires-clause-takes g c =
    let short : length c.args.value.now ≤ c.args.capacity = not-long c.args.value.now c.args.capacity
    (λ long. unlike c.if-is_long.false (c.is_long.ensures.1 long)) in
    subst (λ (x : Parts). FitsThere c.args.t.now (record { page = c.args.p; slot = c.in_ok-vacancy.vacancy.slot })
    c.in_ok-vacancy.vacancy.capacity (Some c.args.value.now) x) (sym c.in_ok-ask.ensures.same)
    (c.in_ok-vacancy.ensures.vacant.takes (Some c.args.value.now) (omega (arith, short)))

pub returns-in_err-put-clause-half : goal.returns-in_err-put-clause-half
returns-in_err-put-clause-half g c =
    let rig = c.args.c.now.rig in
    let t = c.args.t.now in
    let ev = event.Insert t c.args.p c.args.value.now c.args.capacity in
    let x : Parts = parts c.args.c.now in
    let mid : Parts = parts c.ask.new.c in
    let same = c.in_ok-ask.ensures.same in
    let n = c.in_err-put.field-0.0 in
    let e = err_from_is_err_and c.from_residual-in_err-put.result c.from_residual-in_err-put.ensures.1 in (
      None,
      err-half (λ (r : Rid). reply.At r) c.from_residual-in_err-put.result e.0 n (g.G.Rig.seen rig) (g.G.Rig.leaves rig) None ev x
          (parts c.put.new.c) e.1 e.2
          (subst (λ d. HalfServed (g.G.Rig.seen d) (g.G.Rig.leaves d) None ev (refused n) x (parts c.put.new.c)) c.ask.ensures.rig
          (subst (λ (y : Parts). HalfServed (g.G.Rig.seen c.ask.new.c.rig) (g.G.Rig.leaves c.ask.new.c.rig) None ev (refused n) y
          (parts c.put.new.c)) same
          (unfilled-half t c.args.p c.args.value.now c.args.capacity (g.G.Rig.seen c.ask.new.c.rig)
          (g.G.Rig.leaves c.ask.new.c.rig) mid
          c.at_work.ensures.low c.at_work.ensures.high
          (subst (λ (y : Parts). status_at y t.inst ≡ S.Up) (sym same) c.in_ok-at_work.ensures.up)
          (subst (λ (y : Parts). state_at (txns_at y t.inst) t ≡ Some TxnState.Running) (sym same) c.in_ok-at_work.ensures.runs)
          (λ long. unlike c.if-is_long.false (c.is_long.ensures.1 long))
          (subst (λ (y : Parts). holds_as Excl (entry_at y.directory c.args.p) t.inst ≡ true)
          (sym same) c.in_ok-vacancy.ensures.held)
          c.in_ok-vacancy.vacancy.slot c.in_ok-vacancy.vacancy.capacity
          (subst (λ (y : Parts). IsVacant (image_for t c.args.p y) t c.args.p c.args.capacity y c.in_ok-vacancy.vacancy.slot
          c.in_ok-vacancy.vacancy.capacity) (sym same) c.in_ok-vacancy.ensures.vacant)
          (subst (λ (y : Parts). IsFree (stands y.locks) t
          (wait_for (record { page = c.args.p; slot = c.in_ok-vacancy.vacancy.slot }) Excl)) (sym same) c.in_ok-ask.ensures.free)
          (parts c.put.new.c) c.put.result n c.in_err-put.was c.put.ensures.lowered
          c.put.ensures.full
          c.put.ensures.lsns c.put.ensures.refusals))),
    )

pub returns-in_err-put-clause-full : goal.returns-in_err-put-clause-full
returns-in_err-put-clause-full g c =
    let e = err_from_is_err_and c.from_residual-in_err-put.result c.from_residual-in_err-put.ensures.1 in
    put-not-full c.from_residual-in_err-put.result c.put.result e.0 c.in_err-put.field-0.0
    (IsFullFor (image_for c.args.t.now c.args.p (parts c.args.c.now)) c.args.t.now c.args.p c.args.capacity (parts c.args.c.now))
    e.1 e.2 c.in_err-put.was c.put.ensures.refusals

pub returns-clause-half : goal.returns-clause-half
returns-clause-half g c =
    let t = c.args.t.now in
    let r : Rid = record { page = c.args.p; slot = c.in_ok-vacancy.vacancy.slot } in
    let ev = event.Insert t c.args.p c.args.value.now c.args.capacity in
    let x : Parts = parts c.args.c.now in
    let mid : Parts = parts c.ask.new.c in
    let same = c.in_ok-ask.ensures.same in (
      Some r,
      subst (λ d. HalfServed (g.G.Rig.seen d) (g.G.Rig.leaves d) (Some r) ev (Some (reply.At r)) x (parts c.put.new.c))
          c.ask.ensures.rig
          (subst (λ (y : Parts). HalfServed (g.G.Rig.seen c.ask.new.c.rig) (g.G.Rig.leaves c.ask.new.c.rig) (Some r) ev
          (Some (reply.At r)) y (parts c.put.new.c)) same
          (filled-half t c.args.p c.args.value.now c.args.capacity (g.G.Rig.seen c.ask.new.c.rig)
          (g.G.Rig.leaves c.ask.new.c.rig) mid
          c.at_work.ensures.low c.at_work.ensures.high
          (subst (λ (y : Parts). status_at y t.inst ≡ S.Up) (sym same) c.in_ok-at_work.ensures.up)
          (subst (λ (y : Parts). state_at (txns_at y t.inst) t ≡ Some TxnState.Running) (sym same) c.in_ok-at_work.ensures.runs)
          (λ long. unlike c.if-is_long.false (c.is_long.ensures.1 long))
          (subst (λ (y : Parts). holds_as Excl (entry_at y.directory c.args.p) t.inst ≡ true)
          (sym same) c.in_ok-vacancy.ensures.held)
          c.in_ok-vacancy.vacancy.slot c.in_ok-vacancy.vacancy.capacity
          (subst (λ (y : Parts). IsVacant (image_for t c.args.p y) t c.args.p c.args.capacity y c.in_ok-vacancy.vacancy.slot
          c.in_ok-vacancy.vacancy.capacity) (sym same) c.in_ok-vacancy.ensures.vacant)
          (subst (λ (y : Parts). IsFree (stands y.locks) t (wait_for r Excl)) (sym same) c.in_ok-ask.ensures.free)
          (parts c.put.new.c)
          c.in_ok-put.ensures.put)),
    )

-- ---- what is asked of the calls

pub at_work-requires : goal.at_work-requires
at_work-requires g c = c.requires.fits.1.good.shape

pub room_for-requires-clause-good : goal.room_for-requires-clause-good
room_for-requires-clause-good g c = let fits = c.requires.fits in (fits.0.scene.state, fits.1.good)

pub room_for-requires-clause-small : goal.room_for-requires-clause-small
room_for-requires-clause-small g c = asked-small c.args.value.now c.args.capacity
    (λ long. unlike c.if-is_long.false (c.is_long.ensures.1 long))

pub put-requires-clause-up : goal.put-requires-clause-up
put-requires-clause-up g c = subst (λ (y : Parts). status_at y c.args.t.now.inst ≡ S.Up) (sym c.in_ok-ask.ensures.same)
    c.in_ok-at_work.ensures.up

pub put-requires-clause-runs : goal.put-requires-clause-runs
put-requires-clause-runs g c = let t = c.args.t.now in
    subst (λ (y : Parts). state_at (txns_at y t.inst) t ≡ Some TxnState.Running) (sym c.in_ok-ask.ensures.same)
    c.in_ok-at_work.ensures.runs

pub put-requires-clause-held : goal.put-requires-clause-held
put-requires-clause-held g c =
    subst (λ (y : Parts). holds_as Excl (entry_at y.directory c.args.p) c.args.t.now.inst ≡ true) (sym c.in_ok-ask.ensures.same)
    c.in_ok-vacancy.ensures.held

-- ---- the slot that is chosen, and a full page

pub returns-in_err-at_work-clause-chosen : goal.returns-in_err-at_work-clause-chosen
returns-in_err-at_work-clause-chosen g c =
    let e = err_from_is_err_and c.from_residual.result c.from_residual.ensures.1 in
    err-ok c.from_residual.result e.0 _ e.1

pub returns-in_err-at_work-clause-full : goal.returns-in_err-at_work-clause-full
returns-in_err-at_work-clause-full g c full =
    let e = err_from_is_err_and c.from_residual.result c.from_residual.ensures.1 in
    absurd (subst (IsOff c.args.t.now (parts c.args.c.now))
    (same-refusal c.from_residual.result e.0 c.in_err-at_work.field-0.0 R.PageFull e.1 e.2 full) c.in_err-at_work.ensures.off)

pub returns-in_err-vacancy-clause-chosen : goal.returns-in_err-vacancy-clause-chosen
returns-in_err-vacancy-clause-chosen g c =
    let e = err_from_is_err_and c.from_residual-in_err-vacancy.result c.from_residual-in_err-vacancy.ensures.1 in
    err-ok c.from_residual-in_err-vacancy.result e.0 _ e.1

pub returns-in_err-vacancy-clause-full : goal.returns-in_err-vacancy-clause-full
returns-in_err-vacancy-clause-full g c full =
    let e = err_from_is_err_and c.from_residual-in_err-vacancy.result c.from_residual-in_err-vacancy.ensures.1 in
    let lacks = subst (LacksPlace c.args.t.now c.args.p c.args.capacity (parts c.args.c.now))
    (same-refusal c.from_residual-in_err-vacancy.result e.0 c.in_err-vacancy.field-0.0 R.PageFull e.1 e.2 full) c.in_err-vacancy.ensures.lacks in
    lacks.1

pub returns-in_err-ask-clause-chosen : goal.returns-in_err-ask-clause-chosen
returns-in_err-ask-clause-chosen g c =
    let e = err_from_is_err_and c.from_residual-in_err-ask.result c.from_residual-in_err-ask.ensures.1 in
    err-ok c.from_residual-in_err-ask.result e.0 _ e.1

pub returns-in_err-ask-clause-full : goal.returns-in_err-ask-clause-full
returns-in_err-ask-clause-full g c full =
    let e = err_from_is_err_and c.from_residual-in_err-ask.result c.from_residual-in_err-ask.ensures.1 in
    let locks = (parts c.args.c.now).locks in
    let wait = wait_for (record { page = c.args.p; slot = c.in_ok-vacancy.vacancy.slot }) Excl in
    absurd (subst (IsRefused (stands locks) (waits locks) c.args.t.now wait)
    (same-refusal c.from_residual-in_err-ask.result e.0 c.in_err-ask.field-0.0 R.PageFull e.1 e.2 full) c.in_err-ask.ensures.refused)

pub returns-in_err-put-clause-chosen : goal.returns-in_err-put-clause-chosen
returns-in_err-put-clause-chosen g c =
    let e = err_from_is_err_and c.from_residual-in_err-put.result c.from_residual-in_err-put.ensures.1 in
    err-ok c.from_residual-in_err-put.result e.0 _ e.1

pub returns-in_err-put-clause-rig : goal.returns-in_err-put-clause-rig
returns-in_err-put-clause-rig g c = c.put.ensures.rig ∙ c.ask.ensures.rig

pub returns-clause-chosen : goal.returns-clause-chosen
returns-clause-chosen g c = (refl, c.in_ok-vacancy.ensures.vacant.chosen)

pub returns-clause-full : goal.returns-clause-full
returns-clause-full g c full = ok-not_full _ full

pub returns-clause-rig : goal.returns-clause-rig
returns-clause-rig g c = c.put.ensures.rig ∙ c.ask.ensures.rig

-- ---- what it leaves

pub returns-in_err-at_work-clause-left : goal.returns-in_err-at_work-clause-left
returns-in_err-at_work-clause-left g c =
    let t = c.args.t.now in
    let v = c.args.value.now in
    let x : Parts = parts c.args.c.now in
    let n = c.in_err-at_work.field-0.0 in
    let e = err_from_is_err_and c.from_residual.result c.from_residual.ensures.1 in
    by-err (λ (a : Result Rid Refusal). FillLeaves t c.args.p v c.args.capacity a x x) c.from_residual.result e.0 n e.1 e.2
    (off-fill t c.args.p v c.args.capacity x n c.in_err-at_work.ensures.off, locks-same x x refl)

pub returns-then-is_long-clause-left : goal.returns-then-is_long-clause-left
returns-then-is_long-clause-left g c =
    let x : Parts = parts c.args.c.now in
    (c.is_long.ensures.0 c.if-is_long.true, locks-same x x refl)

pub returns-in_err-vacancy-clause-left : goal.returns-in_err-vacancy-clause-left
returns-in_err-vacancy-clause-left g c =
    let t = c.args.t.now in
    let v = c.args.value.now in
    let x : Parts = parts c.args.c.now in
    let n = c.in_err-vacancy.field-0.0 in
    let e = err_from_is_err_and c.from_residual-in_err-vacancy.result c.from_residual-in_err-vacancy.ensures.1 in
    by-err (λ (a : Result Rid Refusal). FillLeaves t c.args.p v c.args.capacity a x x) c.from_residual-in_err-vacancy.result e.0 n e.1 e.2
    (away-fill t c.args.p v c.args.capacity x n c.in_err-vacancy.ensures.lacks, locks-same x x refl)

pub returns-in_err-ask-clause-left : goal.returns-in_err-ask-clause-left
returns-in_err-ask-clause-left g c =
    let t = c.args.t.now in
    let v = c.args.value.now in
    let x : Parts = parts c.args.c.now in
    let new : Parts = parts c.ask.new.c in
    let n = c.in_err-ask.field-0.0 in
    let e = err_from_is_err_and c.from_residual-in_err-ask.result c.from_residual-in_err-ask.ensures.1 in
    by-err (λ (a : Result Rid Refusal). FillLeaves t c.args.p v c.args.capacity a x new) c.from_residual-in_err-ask.result e.0 n e.1 e.2 (
      asked-fill t c.args.p v c.args.capacity x c.in_ok-vacancy.vacancy.slot c.in_ok-vacancy.vacancy.capacity c.in_ok-vacancy.ensures.vacant n
          c.in_err-ask.ensures.refused,
      notes-only t (wait_for (record { page = c.args.p; slot = c.in_ok-vacancy.vacancy.slot }) Excl) n x new c.in_err-ask.ensures.noted,
    )

pub returns-in_err-put-clause-left : goal.returns-in_err-put-clause-left
returns-in_err-put-clause-left g c =
    let t = c.args.t.now in
    let v = c.args.value.now in
    let r : Rid = record { page = c.args.p; slot = c.in_ok-vacancy.vacancy.slot } in
    let own = c.in_ok-vacancy.vacancy.capacity in
    let x : Parts = parts c.args.c.now in
    let mid : Parts = parts c.ask.new.c in
    let new : Parts = parts c.put.new.c in
    let same = c.in_ok-ask.ensures.same in
    let n = c.in_err-put.field-0.0 in
    let e = err_from_is_err_and c.from_residual-in_err-put.result c.from_residual-in_err-put.ensures.1 in
    let left : LacksFor (change_of t r own (Some v) mid) mid n × OnlyLocks mid new = c.in_err-put.ensures.left in
    by-err (λ (a : Result Rid Refusal). FillLeaves t c.args.p v c.args.capacity a x new) c.from_residual-in_err-put.result e.0 n e.1 e.2 (
      unput-fill t c.args.p v c.args.capacity x c.in_ok-vacancy.vacancy.slot own c.in_ok-vacancy.ensures.vacant n
          (subst (λ (y : Parts). LacksFor (change_of t r own (Some v) y) y n) same left.0),
      subst (λ (y : Parts). OnlyLocks y new) same left.1,
    )

pub returns-clause-left : goal.returns-clause-left
returns-clause-left g c =
    let t = c.args.t.now in
    let v = c.args.value.now in
    let r : Rid = record { page = c.args.p; slot = c.in_ok-vacancy.vacancy.slot } in
    let own = c.in_ok-vacancy.vacancy.capacity in
    let new : Parts = parts c.put.new.c in
    let done : Result (Unit {0}) Refusal = Ok tt in
    let left : PutLeaves t r own (Some v) done (parts c.args.c.now) new =
    subst (λ (y : Parts). PutLeaves t r own (Some v) done y new) c.in_ok-ask.ensures.same c.in_ok-put.ensures.left in (
      record { page = refl; own = own; vacant = c.in_ok-vacancy.ensures.vacant; place = left.0; logged = left.1 },
      left.2,
    )
