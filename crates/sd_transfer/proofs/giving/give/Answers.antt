use Rattle.std.proofs.Common.{ℕ, ◌∙◌, ap, refl, subst, sym}
use Rattle.std.specs.Prelude.{Result, Err, OnOk, Some}
use Rattle.std.proofs.lemmas.Result.{err_from_is_err_and}
use Rattle.sd_base.specs.declared.refusal.Refusal.{Refusal}
use Rattle.sd_base.specs.declared.refusal.Refusal.TheVariants as R
use Rattle.sd_model.specs.declared.event.Event.TheVariants.{Give}
use Rattle.sd_model.specs.declared.event.Reply.TheVariants as reply
use Rattle.sd_rig.specs.Devices.{LeavesSame}
use Rattle.sd_state.specs.Complexes.{parts}
use Rattle.sd_state.specs.Parts.{Parts}
use Rattle.sd_state.specs.Values.{Pending}
use Rattle.sd_fits.specs.Serving.{Serving, fits_by, stands_for}
use Rattle.sd_world.specs.Serving.{gave, telling}
use Rattle.sd_world.proofs.Serving.{served-again}
use Rattle.sd_transfer.specs.Giving.{IsForcedFor, IsUngiven}
use Rattle.sd_fits.proofs.Resting.{rests-same, rests-then}
use Rattle.sd_fits.specs.Untouched.{none_of, only}
use Rattle.sd_transfer.proofs.Given.{forced-still, forced-then, give-breaks, give-refused, given-served, may-still}
use Rattle.sd_transfer.proofs.Sent.{leaves-behind}
use Rattle.sd_transfer.proofs.Told.{err-same, had-memory, not-refused}
use Rattle.sd_transfer.proofs.Touched.{failed-so, failed-touches, none-done, refused-so, refused-touches, untouched-behind}
use Rattle.sd_transfer.proofs.giving.give.Goals as goal

pub returns-in_err-to-clause-served : goal.returns-in_err-to-clause-served
returns-in_err-to-clause-served g c =
    let old = c.args.c.now in
    let tell = telling g.G.Rig.seen g.G.Rig.leaves g.G.Rig.moment g.G.Rig.since g.G.Rig.faults in
    let p = err_from_is_err_and c.from_residual.result c.from_residual.ensures.1 in
    subst (λ (r : Result ℕ Refusal). Serving tell (Give c.args.j c.args.p) (gave r) old old)
    (sym (p.1 ∙ ap (λ (n : Refusal). Err n) p.2))
    (give-refused tell old c.args.j c.args.p c.keeps.ensures.low c.keeps.ensures.high
    (λ img since. g.met.G.Rig.only_now old.rig img since) c.in_err-to.field-0.0 c.in_err-to.ensures.refused)

pub returns-in_err-force_owner-clause-served : goal.returns-in_err-force_owner-clause-served
returns-in_err-force_owner-clause-served g c =
    let old = c.args.c.now in
    let tell = telling g.G.Rig.seen g.G.Rig.leaves g.G.Rig.moment g.G.Rig.since g.G.Rig.faults in
    let p = err_from_is_err_and c.from_residual-in_err-force_owner.result c.from_residual-in_err-force_owner.ensures.1 in
    let force = c.in_err-force_owner.ensures in
    subst (λ (r : Result ℕ Refusal). Serving tell (Give c.args.j c.args.p) (gave r) old c.force_owner.new.c)
    (sym (p.1 ∙ ap (λ (n : Refusal). Err n) (p.2 ∙ force.only)))
    (force.failed (Give c.args.j c.args.p)
    (give-breaks tell old c.args.j c.args.p c.keeps.ensures.low c.keeps.ensures.high
    (λ img since. g.met.G.Rig.only_now old.rig img since) c.in_ok-to.to c.in_ok-to.mode c.in_ok-to.ensures.may))

pub hand_over-requires-clause-good : goal.hand_over-requires-clause-good
hand_over-requires-clause-good g c =
    let fits = c.requires.fits in (
      Pending.Idle,
      fits.0.scene.state,
      ((c.in_ok-force_owner.ensures.spared (Give c.args.j c.args.p)).0 fits.0 fits.1).fits_still.good,
    )

pub hand_over-requires-clause-forced : goal.hand_over-requires-clause-forced
hand_over-requires-clause-forced g c = forced-still (parts c.args.c.now) (parts c.force_owner.new.c) c.args.j c.args.p
    c.in_ok-force_owner.ensures.stays c.in_ok-force_owner.ensures.forced

pub returns-clause-served : goal.returns-clause-served
returns-clause-served g c =
    let r = g.G.Rig in
    let tell = telling r.seen r.leaves r.moment r.since r.faults in
    let mid = c.force_owner.new.c in
    let new = c.hand_over.new.c in
    let done = c.hand_over.ensures in
    served-again tell stands_for (λ k. k.rig) (fits_by r.seen r.leaves) (Give c.args.j c.args.p) (Some (reply.Gave c.in_ok-to.to))
    c.args.c.now mid new (λ t u img le s. g.met.G.Rig.earlier new.rig t u img le s)
    (c.in_ok-force_owner.ensures.spared (Give c.args.j c.args.p))
    (given-served tell mid c.args.j c.args.p c.keeps.ensures.low c.keeps.ensures.high
    (λ img since. g.met.G.Rig.only_now mid.rig img since) c.in_ok-to.to c.in_ok-to.mode
    (may-still (parts c.args.c.now) (parts mid) c.args.j c.args.p c.in_ok-to.to c.in_ok-to.mode c.in_ok-force_owner.ensures.stays
    c.in_ok-to.ensures.may)
    new done.rig done.pages done.frames done.good done.place)

pub returns-clause-disk_leaves : goal.returns-clause-disk_leaves
returns-clause-disk_leaves g c =
    subst (λ (d : g.row.G.Denot). LeavesSame (g.G.Rig.leaves c.args.c.now.rig 0) (g.G.Rig.leaves d 0)) (sym c.hand_over.ensures.rig)
    c.force_owner.ensures.disk_leaves

pub returns-in_err-to-clause-down : goal.returns-in_err-to-clause-down
returns-in_err-to-clause-down g c = λ e.
    let p = err_from_is_err_and c.from_residual.result c.from_residual.ensures.1 in
    absurd (subst (IsUngiven (parts c.args.c.now) c.args.j c.args.p) (sym p.2 ∙ err-same c.from_residual.result p.0 R.Failed p.1 e)
    c.in_err-to.ensures.refused)

pub returns-in_err-force_owner-clause-down : goal.returns-in_err-force_owner-clause-down
returns-in_err-force_owner-clause-down g c = λ e. c.in_err-force_owner.ensures.down

pub may_give-requires : goal.may_give-requires
may_give-requires g c = c.requires.fits.1.good.shape

pub returns-in_err-to-clause-there : goal.returns-in_err-to-clause-there
returns-in_err-to-clause-there g c is =
    let p = err_from_is_err_and c.from_residual.result c.from_residual.ensures.1 in
    subst (IsUngiven (parts c.args.c.now) c.args.j c.args.p) (sym p.2 ∙ err-same c.from_residual.result p.0 R.Memory p.1 is)
    c.in_err-to.ensures.refused

pub returns-in_err-to-clause-disk : goal.returns-in_err-to-clause-disk
returns-in_err-to-clause-disk g c = refl

pub returns-in_err-to-clause-disk_leaves : goal.returns-in_err-to-clause-disk_leaves
returns-in_err-to-clause-disk_leaves g c n = ((λ left. left), (λ left. left))

pub returns-in_err-to-clause-forced : goal.returns-in_err-to-clause-forced
returns-in_err-to-clause-forced g c =
    let old : Parts = parts c.args.c.now in
    subst (λ (r : Result ℕ Refusal). OnOk r (IsForcedFor old c.args.j c.args.p old))
    (sym (err_from_is_err_and c.from_residual.result c.from_residual.ensures.1).1) tt

pub returns-in_err-force_owner-clause-forced : goal.returns-in_err-force_owner-clause-forced
returns-in_err-force_owner-clause-forced g c =
    let p = err_from_is_err_and c.from_residual-in_err-force_owner.result c.from_residual-in_err-force_owner.ensures.1 in
    subst (λ (r : Result ℕ Refusal). OnOk r (IsForcedFor (parts c.args.c.now) c.args.j c.args.p (parts c.force_owner.new.c)))
    (sym p.1) tt

pub force_owner-requires-clause-fits : goal.force_owner-requires-clause-fits
force_owner-requires-clause-fits g c = c.requires.fits

pub force_owner-requires-clause-active : goal.force_owner-requires-clause-active
force_owner-requires-clause-active g c = c.in_ok-to.ensures.may.active

pub returns-in_err-force_owner-clause-there : goal.returns-in_err-force_owner-clause-there
returns-in_err-force_owner-clause-there g c is =
    let p = err_from_is_err_and c.from_residual-in_err-force_owner.result c.from_residual-in_err-force_owner.ensures.1 in
    had-memory (sym (p.2 ∙ c.in_err-force_owner.ensures.only)
    ∙ err-same c.from_residual-in_err-force_owner.result p.0 R.Memory p.1 is)

pub returns-in_err-force_owner-clause-disk : goal.returns-in_err-force_owner-clause-disk
returns-in_err-force_owner-clause-disk g c = c.force_owner.ensures.disk

pub returns-in_err-force_owner-clause-disk_leaves : goal.returns-in_err-force_owner-clause-disk_leaves
returns-in_err-force_owner-clause-disk_leaves g c = c.force_owner.ensures.disk_leaves

pub hand_over-requires-clause-idle : goal.hand_over-requires-clause-idle
hand_over-requires-clause-idle g c =
    let fits = c.requires.fits in
    ((c.in_ok-force_owner.ensures.spared (Give c.args.j c.args.p)).0 fits.0 fits.1).fits_still.idle

pub hand_over-requires-clause-may : goal.hand_over-requires-clause-may
hand_over-requires-clause-may g c = may-still (parts c.args.c.now) (parts c.force_owner.new.c) c.args.j c.args.p c.in_ok-to.to
    c.in_ok-to.mode c.in_ok-force_owner.ensures.stays c.in_ok-to.ensures.may

pub returns-clause-there : goal.returns-clause-there
returns-clause-there g c is = not-refused c.in_ok-to.to R.Memory is

pub returns-clause-disk : goal.returns-clause-disk
returns-clause-disk g c = ap (λ (d : g.row.G.Denot). g.G.Rig.seen d 0) c.hand_over.ensures.rig ∙ c.force_owner.ensures.disk

pub returns-clause-forced : goal.returns-clause-forced
returns-clause-forced g c = forced-then (parts c.args.c.now) (parts c.force_owner.new.c) (parts c.hand_over.new.c) c.args.j c.args.p
    c.hand_over.ensures.pages c.in_ok-force_owner.ensures.forced

pub returns-clause-down : goal.returns-clause-down
returns-clause-down g c is = absurd (not-refused c.in_ok-to.to R.Failed is)

-- ---- what no world has, and a recovery that is under way

pub returns-in_err-to-clause-untouched : goal.returns-in_err-to-clause-untouched
returns-in_err-to-clause-untouched g c =
    let old : Parts = parts c.args.c.now in
    let p = err_from_is_err_and c.from_residual.result c.from_residual.ensures.1 in
    refused-touches c.args.j (only c.args.j) c.from_residual.result p.0 old old p.1
    (λ e. subst (IsUngiven old c.args.j c.args.p) (sym p.2 ∙ e) c.in_err-to.ensures.refused) refl

pub returns-in_err-to-clause-refused : goal.returns-in_err-to-clause-refused
returns-in_err-to-clause-refused g c = refused-so c.from_residual.result _ (refl, refl)

pub returns-in_err-to-clause-pools : goal.returns-in_err-to-clause-pools
returns-in_err-to-clause-pools g c =
    let p = err_from_is_err_and c.from_residual.result c.from_residual.ensures.1 in
    none-done c.from_residual.result p.0 _ p.1

pub returns-in_err-to-clause-rest : goal.returns-in_err-to-clause-rest
returns-in_err-to-clause-rest g c = rests-same (parts c.args.c.now)

pub returns-in_err-to-clause-tick : goal.returns-in_err-to-clause-tick
returns-in_err-to-clause-tick g c =
    let p = err_from_is_err_and c.from_residual.result c.from_residual.ensures.1 in
    none-done c.from_residual.result p.0 _ p.1

pub returns-in_err-force_owner-clause-untouched : goal.returns-in_err-force_owner-clause-untouched
returns-in_err-force_owner-clause-untouched g c =
    let p = err_from_is_err_and c.from_residual-in_err-force_owner.result c.from_residual-in_err-force_owner.ensures.1 in
    failed-touches c.args.j (only c.args.j) none_of c.from_residual-in_err-force_owner.result c.in_err-force_owner.field-0.0
    (parts c.args.c.now) (parts c.force_owner.new.c) (p.1 ∙ ap (λ (n : Refusal). Err n) p.2)
    c.in_err-force_owner.ensures.only c.in_err-force_owner.ensures.untouched

pub returns-in_err-force_owner-clause-refused : goal.returns-in_err-force_owner-clause-refused
returns-in_err-force_owner-clause-refused g c =
    let p = err_from_is_err_and c.from_residual-in_err-force_owner.result c.from_residual-in_err-force_owner.ensures.1 in
    failed-so c.from_residual-in_err-force_owner.result c.in_err-force_owner.field-0.0 _ (p.1 ∙ ap (λ (n : Refusal). Err n) p.2)
    c.in_err-force_owner.ensures.only

pub returns-in_err-force_owner-clause-pools : goal.returns-in_err-force_owner-clause-pools
returns-in_err-force_owner-clause-pools g c =
    let p = err_from_is_err_and c.from_residual-in_err-force_owner.result c.from_residual-in_err-force_owner.ensures.1 in
    none-done c.from_residual-in_err-force_owner.result p.0 _ p.1

pub returns-in_err-force_owner-clause-rest : goal.returns-in_err-force_owner-clause-rest
returns-in_err-force_owner-clause-rest g c = c.force_owner.ensures.rest

pub returns-in_err-force_owner-clause-shared : goal.returns-in_err-force_owner-clause-shared
returns-in_err-force_owner-clause-shared g c = c.force_owner.ensures.shared

pub returns-in_err-force_owner-clause-idle : goal.returns-in_err-force_owner-clause-idle
returns-in_err-force_owner-clause-idle g c = c.force_owner.ensures.idle

pub returns-in_err-force_owner-clause-tick : goal.returns-in_err-force_owner-clause-tick
returns-in_err-force_owner-clause-tick g c =
    let p = err_from_is_err_and c.from_residual-in_err-force_owner.result c.from_residual-in_err-force_owner.ensures.1 in
    none-done c.from_residual-in_err-force_owner.result p.0 _ p.1

pub returns-clause-untouched : goal.returns-clause-untouched
returns-clause-untouched g c = untouched-behind (only c.args.j) none_of (parts c.args.c.now) (parts c.force_owner.new.c)
    (parts c.hand_over.new.c) c.in_ok-force_owner.ensures.stays c.hand_over.ensures.untouched

pub returns-clause-pools : goal.returns-clause-pools
returns-clause-pools g c = leaves-behind c.args.j c.args.p (parts c.args.c.now) (parts c.force_owner.new.c) (parts c.hand_over.new.c)
    c.in_ok-force_owner.ensures.stays c.hand_over.ensures.pools

pub returns-clause-rest : goal.returns-clause-rest
returns-clause-rest g c = rests-then (parts c.args.c.now) (parts c.force_owner.new.c) (parts c.hand_over.new.c)
    c.force_owner.ensures.rest c.hand_over.ensures.rest

pub returns-clause-shared : goal.returns-clause-shared
returns-clause-shared g c shares = c.hand_over.ensures.rig ∙ c.force_owner.ensures.shared shares

pub returns-clause-idle : goal.returns-clause-idle
returns-clause-idle g c calls = c.hand_over.ensures.rig ∙ c.force_owner.ensures.idle calls

pub returns-clause-tick : goal.returns-clause-tick
returns-clause-tick g c = ap (λ (d : g.row.G.Denot). g.G.Rig.moment d) c.hand_over.ensures.rig ∙ c.in_ok-force_owner.ensures.tick
