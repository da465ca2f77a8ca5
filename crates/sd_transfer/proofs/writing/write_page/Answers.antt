use Rattle.std.proofs.Common.{◌≡◌, ◌⊎◌, ◌+◌, Bool, cond, inl, inr, false, refl, sym, ap, ◌∙◌, subst}
use Rattle.std.specs.Prelude.{Result, Err}
use Rattle.std.proofs.lemmas.Result.{err_from_is_err_and}
use Rattle.sd_base.specs.declared.place.Status.TheVariants as S
use Rattle.sd_base.specs.declared.refusal.Refusal.{Refusal}
use Rattle.sd_base.specs.declared.refusal.Refusal.TheVariants as R
use Rattle.sd_model.specs.declared.event.Event.TheVariants.{Flush}
use Rattle.sd_base.proofs.Results.{on_err, on_ok}
use Rattle.sd_fits.proofs.Refused.{unlike}
use Rattle.sd_fits.proofs.Resting.{rests-same, rests-then}
use Rattle.sd_pagelock.specs.Directory.{entry_at, rec_lsn_at}
use Rattle.sd_pagelock.specs.Places.{changed, is_lost}
use Rattle.sd_pagelock.specs.Rows as rows
use Rattle.sd_state.specs.Complexes.{parts}
use Rattle.sd_moves.specs.Putting.{with_loose_disk}
use Rattle.sd_state.specs.Parts.{Parts, is_active, is_loose, status_at}
use Rattle.sd_state.specs.Values.{Pending}
use Rattle.sd_fits.specs.Serving.{Serving, fits_by, stands_for}
use Rattle.sd_world.specs.Pages.{is_duty}
use Rattle.sd_world.specs.Serving.{did, telling}
use Rattle.sd_world.proofs.Serving.{served-again}
use Rattle.sd_transfer.specs.Forcing.{force_calls}
use Rattle.sd_transfer.specs.Writing.{IsUnread, StaysUnwritten, put_calls, write_calls}
use Rattle.sd_transfer.proofs.Touched.{failed-alone, failed-so, failed-writes, none-done, none-marked, put-behind, put-writes, refused-so, refused-writes, unput-behind, write-ticks}
use Rattle.sd_transfer.proofs.Settled.{settled-page}
use Rattle.sd_transfer.proofs.Unput.{unread-behind}
use Rattle.sd_transfer.proofs.Writes.{clean-served, clean-unchanged, flush-breaks, flush-refused}
use Rattle.sd_transfer.proofs.writing.write_page.Goals as goal

pub returns-in_err-may_put-clause-served : goal.returns-in_err-may_put-clause-served
returns-in_err-may_put-clause-served g c =
    let old = c.args.c.now in
    let tell = telling g.G.Rig.seen g.G.Rig.leaves g.G.Rig.moment g.G.Rig.since g.G.Rig.faults in
    let p = err_from_is_err_and c.from_residual.result c.from_residual.ensures.1 in
    subst (λ (r : Result (Unit {0}) Refusal). Serving tell (Flush c.args.i c.args.p) (did r) old old)
    (sym (p.1 ∙ ap (λ (n : Refusal). Err n) p.2))
    (flush-refused tell old c.args.i c.args.p c.keeps.ensures.low c.keeps.ensures.high
    (λ img since. g.met.G.Rig.only_now old.rig img since) c.in_err-may_put.field-0.0 c.in_err-may_put.ensures.refused)

pub returns-then-not-is_changed-clause-served : goal.returns-then-not-is_changed-clause-served
returns-then-not-is_changed-clause-served g c =
    let old = c.args.c.now in
    let tell = telling g.G.Rig.seen g.G.Rig.leaves g.G.Rig.moment g.G.Rig.since g.G.Rig.faults in
    clean-served tell old c.args.i c.args.p c.keeps.ensures.low c.keeps.ensures.high
    (λ img since. g.met.G.Rig.only_now old.rig img since) c.in_ok-may_put.ensures.may
    (sym c.is_changed.ensures ∙ c.if-not-is_changed.true) c.requires.fits

pub returns-then-not-is_changed-clause-written : goal.returns-then-not-is_changed-clause-written
returns-then-not-is_changed-clause-written g c =
    let old = c.args.c.now in
    let fits = c.requires.fits in
    settled-page c.args.p (g.G.Rig.seen old.rig) (g.G.Rig.leaves old.rig) Pending.Idle (parts old) fits.0.scene.state fits.1.good
    fits.1.idle
    (clean-unchanged c.args.i (entry_at (parts old).directory c.args.p) c.in_ok-may_put.ensures.may.duty
    (sym c.is_changed.ensures ∙ c.if-not-is_changed.true))

pub returns-in_err-force_or_fall-clause-served : goal.returns-in_err-force_or_fall-clause-served
returns-in_err-force_or_fall-clause-served g c =
    let old = c.args.c.now in
    let tell = telling g.G.Rig.seen g.G.Rig.leaves g.G.Rig.moment g.G.Rig.since g.G.Rig.faults in
    let p = err_from_is_err_and c.from_residual-in_err-force_or_fall.result c.from_residual-in_err-force_or_fall.ensures.1 in
    let force = c.in_err-force_or_fall.ensures in
    subst (λ (r : Result (Unit {0}) Refusal). Serving tell (Flush c.args.i c.args.p) (did r) old c.force_or_fall.new.c)
    (sym (p.1 ∙ ap (λ (n : Refusal). Err n) (p.2 ∙ force.only)))
    (force.failed (Flush c.args.i c.args.p)
    (λ w f. flush-breaks tell old c.args.i c.args.p c.keeps.ensures.low c.keeps.ensures.high w f
    c.in_ok-may_put.ensures.may))

pub put_or_fall-requires-clause-fits : goal.put_or_fall-requires-clause-fits
put_or_fall-requires-clause-fits g c =
    let fits = c.requires.fits in
    (fits.0, ((c.in_ok-force_or_fall.ensures.spared (Flush c.args.i c.args.p)).0 fits.0 fits.1).fits_still)

pub put_or_fall-requires-clause-may : goal.put_or_fall-requires-clause-may
put_or_fall-requires-clause-may g c =
    let may = c.in_ok-may_put.ensures.may in
    let stays = c.in_ok-force_or_fall.ensures.stays in
    let i = c.args.i in
    let p = c.args.p in
    record {
      active = ap (λ (k : Parts). is_active k i) stays ∙ may.active;
      found = ap (λ (k : Parts). is_lost (entry_at k.directory p)) stays ∙ may.found;
      duty = ap (λ (k : Parts). is_duty i (entry_at k.directory p)) stays ∙ may.duty;
    }

pub put_or_fall-requires-clause-changed : goal.put_or_fall-requires-clause-changed
put_or_fall-requires-clause-changed g c =
    let p = c.args.p in
    ap (λ (k : Parts). rows.may_write (entry_at k.directory p)) c.in_ok-force_or_fall.ensures.stays
    ∙ sym c.is_changed.ensures ∙ c.if-not-is_changed.false

pub put_or_fall-requires-clause-forced : goal.put_or_fall-requires-clause-forced
put_or_fall-requires-clause-forced g c settled =
    let i = c.args.i in
    c.in_ok-force_or_fall.ensures.forced
    (sym (ap (λ (k : Parts). is_loose k i) c.in_ok-force_or_fall.ensures.stays) ∙ settled)

pub returns-clause-served : goal.returns-clause-served
returns-clause-served g c =
    let r = g.G.Rig in
    let tell = telling r.seen r.leaves r.moment r.since r.faults in
    let new = c.put_or_fall.new.c in
    served-again tell stands_for (λ k. k.rig) (fits_by r.seen r.leaves) (Flush c.args.i c.args.p) (did c.put_or_fall.result)
    c.args.c.now c.force_or_fall.new.c new (λ t u img le s. g.met.G.Rig.earlier new.rig t u img le s)
    (c.in_ok-force_or_fall.ensures.spared (Flush c.args.i c.args.p)) c.put_or_fall.ensures.served

pub returns-in_err-may_put-clause-failed : goal.returns-in_err-may_put-clause-failed
returns-in_err-may_put-clause-failed g c = λ e.
    let p = err_from_is_err_and c.from_residual.result c.from_residual.ensures.1 in
    let same : c.in_err-may_put.field-0.0 ≡ R.Failed = cc (p.1, p.2) in
    absurd (subst (StaysUnwritten (parts c.args.c.now) c.args.i c.args.p) same c.in_err-may_put.ensures.refused)

pub returns-in_err-force_or_fall-clause-failed : goal.returns-in_err-force_or_fall-clause-failed
returns-in_err-force_or_fall-clause-failed g c = λ e. inl c.in_err-force_or_fall.ensures.down

pub returns-clause-failed : goal.returns-clause-failed
returns-clause-failed g c = λ e. fails (c.put_or_fall.ensures.failed e)
  where
    fails : (status_at (parts c.put_or_fall.new.c) c.args.i ≡ S.Down)
        ⊎ (parts c.put_or_fall.new.c ≡ with_loose_disk false (parts c.force_or_fall.new.c))
        → (status_at (parts c.put_or_fall.new.c) c.args.i ≡ S.Down) ⊎ IsUnread c.args.i (parts c.args.c.now) (parts c.put_or_fall.new.c)
    fails (inl down) = inl down
    fails (inr same) = inr (unread-behind c.args.i (parts c.args.c.now) (parts c.force_or_fall.new.c) (parts c.put_or_fall.new.c)
        c.in_ok-force_or_fall.ensures.stays c.in_ok-force_or_fall.ensures.forced same)

pub returns-in_err-may_put-clause-spared : goal.returns-in_err-may_put-clause-spared
returns-in_err-may_put-clause-spared g c = λ e.
    let p = err_from_is_err_and c.from_residual.result c.from_residual.ensures.1 in
    let same : c.in_err-may_put.field-0.0 ≡ R.Failed = cc (p.1, p.2) in
    absurd (subst (StaysUnwritten (parts c.args.c.now) c.args.i c.args.p) same c.in_err-may_put.ensures.refused)

pub returns-in_err-force_or_fall-clause-spared : goal.returns-in_err-force_or_fall-clause-spared
returns-in_err-force_or_fall-clause-spared g c e calls down =
    let done = c.force_or_fall.ensures.sure calls in let was = c.in_err-force_or_fall.was in absurd (cc)

pub returns-clause-spared : goal.returns-clause-spared
returns-clause-spared g c e calls down = c.put_or_fall.ensures.spared e down

pub returns-in_err-may_put-clause-unsettled : goal.returns-in_err-may_put-clause-unsettled
returns-in_err-may_put-clause-unsettled g c = λ e.
    let p = err_from_is_err_and c.from_residual.result c.from_residual.ensures.1 in
    let same : c.in_err-may_put.field-0.0 ≡ R.Failed = cc (p.1, p.2) in
    absurd (subst (StaysUnwritten (parts c.args.c.now) c.args.i c.args.p) same c.in_err-may_put.ensures.refused)

pub returns-in_err-force_or_fall-clause-unsettled : goal.returns-in_err-force_or_fall-clause-unsettled
returns-in_err-force_or_fall-clause-unsettled g c e down = inr c.in_err-force_or_fall.ensures.marks

pub returns-clause-unsettled : goal.returns-clause-unsettled
returns-clause-unsettled g c e down = inl (c.put_or_fall.ensures.spared e down)

-- ---- a page that isn't changed, what no world has, and a recovery that is under way

pub returns-in_err-may_put-clause-refused : goal.returns-in_err-may_put-clause-refused
returns-in_err-may_put-clause-refused g c = refused-so c.from_residual.result _ (refl, refl)

pub returns-in_err-may_put-clause-untouched : goal.returns-in_err-may_put-clause-untouched
returns-in_err-may_put-clause-untouched g c =
    let old : Parts = parts c.args.c.now in
    let p = err_from_is_err_and c.from_residual.result c.from_residual.ensures.1 in
    refused-writes c.args.i c.args.p c.from_residual.result p.0 old p.1
    (λ e. subst (StaysUnwritten old c.args.i c.args.p) (sym p.2 ∙ e) c.in_err-may_put.ensures.refused)

pub returns-in_err-may_put-clause-rest : goal.returns-in_err-may_put-clause-rest
returns-in_err-may_put-clause-rest g c = rests-same (parts c.args.c.now)

pub returns-in_err-may_put-clause-tick : goal.returns-in_err-may_put-clause-tick
returns-in_err-may_put-clause-tick g c =
    let p = err_from_is_err_and c.from_residual.result c.from_residual.ensures.1 in
    none-done c.from_residual.result p.0 _ p.1

pub returns-then-not-is_changed-clause-untouched : goal.returns-then-not-is_changed-clause-untouched
returns-then-not-is_changed-clause-untouched g c =
    let old : Parts = parts c.args.c.now in
    inl (
      none-marked (rec_lsn_at old.directory c.args.p) (changed (entry_at old.directory c.args.p)) (c.keeps-2.ensures.marked c.args.p)
          (clean-unchanged c.args.i (entry_at old.directory c.args.p) c.in_ok-may_put.ensures.may.duty
          (sym c.is_changed.ensures ∙ c.if-not-is_changed.true)),
      refl,
    )

pub returns-then-not-is_changed-clause-rest : goal.returns-then-not-is_changed-clause-rest
returns-then-not-is_changed-clause-rest g c = rests-same (parts c.args.c.now)

pub returns-in_err-force_or_fall-clause-clean : goal.returns-in_err-force_or_fall-clause-clean
returns-in_err-force_or_fall-clause-clean g c clean = unlike clean (sym c.is_changed.ensures ∙ c.if-not-is_changed.false)

pub returns-in_err-force_or_fall-clause-refused : goal.returns-in_err-force_or_fall-clause-refused
returns-in_err-force_or_fall-clause-refused g c =
    let p = err_from_is_err_and c.from_residual-in_err-force_or_fall.result c.from_residual-in_err-force_or_fall.ensures.1 in
    failed-so c.from_residual-in_err-force_or_fall.result c.in_err-force_or_fall.field-0.0 _
    (p.1 ∙ ap (λ (n : Refusal). Err n) p.2) c.in_err-force_or_fall.ensures.only

pub returns-in_err-force_or_fall-clause-untouched : goal.returns-in_err-force_or_fall-clause-untouched
returns-in_err-force_or_fall-clause-untouched g c =
    let p = err_from_is_err_and c.from_residual-in_err-force_or_fall.result c.from_residual-in_err-force_or_fall.ensures.1 in
    failed-writes c.args.i c.args.p c.from_residual-in_err-force_or_fall.result c.in_err-force_or_fall.field-0.0
    (parts c.args.c.now) (parts c.force_or_fall.new.c) (p.1 ∙ ap (λ (n : Refusal). Err n) p.2)
    c.in_err-force_or_fall.ensures.only c.in_err-force_or_fall.ensures.untouched

pub returns-in_err-force_or_fall-clause-rest : goal.returns-in_err-force_or_fall-clause-rest
returns-in_err-force_or_fall-clause-rest g c = c.force_or_fall.ensures.rest

pub returns-in_err-force_or_fall-clause-tick : goal.returns-in_err-force_or_fall-clause-tick
returns-in_err-force_or_fall-clause-tick g c =
    let p = err_from_is_err_and c.from_residual-in_err-force_or_fall.result c.from_residual-in_err-force_or_fall.ensures.1 in
    none-done c.from_residual-in_err-force_or_fall.result p.0 _ p.1

pub returns-clause-clean : goal.returns-clause-clean
returns-clause-clean g c clean = unlike clean (sym c.is_changed.ensures ∙ c.if-not-is_changed.false)

pub returns-clause-refused : goal.returns-clause-refused
returns-clause-refused g c = failed-alone c.put_or_fall.result _ c.put_or_fall.ensures.only

pub returns-clause-untouched : goal.returns-clause-untouched
returns-clause-untouched g c =
    let old : Parts = parts c.args.c.now in
    let mid : Parts = parts c.force_or_fall.new.c in
    let new : Parts = parts c.put_or_fall.new.c in
    let force = c.in_ok-force_or_fall.ensures in
    put-writes c.args.i c.args.p c.put_or_fall.result old new c.put_or_fall.ensures.only
    (on_ok c.put_or_fall.result _ _ (λ put. put-behind c.args.p old mid new force.stays put) c.put_or_fall.ensures.put)
    (on_err c.put_or_fall.result _ _ (λ unput. unput-behind c.args.i old mid new force.stays force.others force.forced unput)
    c.put_or_fall.ensures.unput)

pub returns-clause-rest : goal.returns-clause-rest
returns-clause-rest g c = rests-then (parts c.args.c.now) (parts c.force_or_fall.new.c) (parts c.put_or_fall.new.c)
    c.force_or_fall.ensures.rest c.put_or_fall.ensures.rest

pub returns-clause-tick : goal.returns-clause-tick
returns-clause-tick g c =
    let old : Parts = parts c.args.c.now in
    let mid : Parts = parts c.force_or_fall.new.c in
    let force = c.in_ok-force_or_fall.ensures in
    on_ok c.put_or_fall.result _ _
    (λ put. write-ticks (g.G.Rig.moment c.args.c.now.rig) (g.G.Rig.moment c.force_or_fall.new.c.rig)
    (g.G.Rig.moment c.put_or_fall.new.c.rig) (force_calls c.args.i old) (put_calls mid) (write_calls c.args.i c.args.p old)
    force.tick put
    (ap (λ (b : Bool). cond b (force_calls c.args.i old + put_calls old) 0) (sym c.is_changed.ensures ∙ c.if-not-is_changed.false)
    ∙ ap (λ (b : Bool). force_calls c.args.i old + cond b 7 6) (sym (ap (λ (k : Parts). is_loose k 0) force.stays))))
    c.put_or_fall.ensures.tick
