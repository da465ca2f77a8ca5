use Rattle.std.proofs.Common.{◌≡◌, ◌≢◌, ℕ, ◌+◌, refl, sym, ap, ◌∙◌, subst}
use Rattle.std.specs.Prelude.{IfErr, Result, Err}
use Rattle.std.proofs.lemmas.Result.{err_from_is_err_and}
use Rattle.sd_base.specs.Streams.{Rises}
use Rattle.sd_base.specs.declared.refusal.Refusal.{Refusal}
use Rattle.sd_base.specs.declared.refusal.Refusal.TheVariants as R
use Rattle.sd_fits.specs.Serving.{Serving}
use Rattle.sd_model.specs.declared.event.Event.TheVariants.{Join}
use Rattle.sd_chain.specs.Logs.{next_lsn}
use Rattle.sd_state.specs.Complexes.{parts}
use Rattle.sd_state.specs.Parts.{Parts, actor, log_at}
use Rattle.sd_state.specs.Values.{Pending}
use Rattle.sd_world.specs.Serving.{joined_reply, telling}
use Rattle.sd_recover.proofs.Calls.{failed-due, joined-bare, joined-settled, start-settled}
use Rattle.sd_recover.proofs.JoinTouched.{join-touches, join-untouched, out-failed, seal-failed, start-tail}
use Rattle.sd_recover.proofs.Joined.{HasStarted, fails-join, joins}
use Rattle.sd_recover.proofs.Unjoined.{seal-refused, stays-out}
use Rattle.sd_recover.proofs.joining.join.Goals as goal

pub force_log-requires-clause-good : goal.force_log-requires-clause-good
force_log-requires-clause-good g c =
    let fits = c.requires.fits in
    (Pending.Starts c.args.i, fits.0.scene.state, c.in_ok-epoch.ensures.good fits.0.scene.state fits.1.good)

pub joined-requires-clause-good : goal.joined-requires-clause-good
joined-requires-clause-good g c =
    let fits = c.requires.fits in
    let m = fits.0.scene.state in
    (m, c.force_log.ensures.good (Pending.Starts c.args.i) m (c.in_ok-epoch.ensures.good m fits.1.good))

pub joined-requires-clause-settled : goal.joined-requires-clause-settled
joined-requires-clause-settled g c =
    let fits = c.requires.fits in
    let old : Parts = parts c.args.c.now in
    let rig = c.args.c.now.rig in
    let start = c.in_ok-epoch.ensures in
    let seal = start.good fits.0.scene.state fits.1.good in
    let low = c.keeps.ensures.low in
    let high = c.keeps.ensures.high in
    let s : Parts = parts c.seal_start.new.c in
    let settled = start-settled c.args.i (next_lsn (log_at old c.args.i) 0) c.in_ok-epoch.epoch (log_at s c.args.i).spare
    (g.G.Rig.seen rig) (g.G.Rig.leaves rig) old s fits.0 fits.1 low high c.in_ok-may_start.ensures.waits start.parts in
    joined-settled c.args.i (next_lsn (log_at old c.args.i) 0) c.in_ok-epoch.epoch (log_at s c.args.i).spare
    (g.G.Rig.seen rig) (g.G.Rig.leaves rig) old s fits.0 fits.1 low high c.in_ok-may_start.ensures.waits start.parts
    (parts c.force_log.new.self) seal.shape (c.in-Ok.ensures.forced settled)

pub joined-requires-clause-forced : goal.joined-requires-clause-forced
joined-requires-clause-forced g c =
    let fits = c.requires.fits in
    let old : Parts = parts c.args.c.now in
    let rig = c.args.c.now.rig in
    let start = c.in_ok-epoch.ensures in
    let seal = start.good fits.0.scene.state fits.1.good in
    let low = c.keeps.ensures.low in
    let high = c.keeps.ensures.high in
    let s : Parts = parts c.seal_start.new.c in
    let settled = start-settled c.args.i (next_lsn (log_at old c.args.i) 0) c.in_ok-epoch.epoch (log_at s c.args.i).spare
    (g.G.Rig.seen rig) (g.G.Rig.leaves rig) old s fits.0 fits.1 low high c.in_ok-may_start.ensures.waits start.parts in
    joined-bare c.args.i (next_lsn (log_at old c.args.i) 0) c.in_ok-epoch.epoch (log_at s c.args.i).spare
    (g.G.Rig.seen rig) (g.G.Rig.leaves rig) old s fits.0 fits.1 low high c.in_ok-may_start.ensures.waits start.parts
    (parts c.force_log.new.self) seal.shape (c.in-Ok.ensures.forced settled)

pub down-requires-clause-good : goal.down-requires-clause-good
down-requires-clause-good g c =
    let fits = c.requires.fits in
    let m = fits.0.scene.state in
    (Pending.Starts c.args.i, m, c.force_log.ensures.good (Pending.Starts c.args.i) m (c.in_ok-epoch.ensures.good m fits.1.good))

pub down-requires-clause-due : goal.down-requires-clause-due
down-requires-clause-due g c =
    let fits = c.requires.fits in
    let old : Parts = parts c.args.c.now in
    let rig = c.args.c.now.rig in
    let start = c.in_ok-epoch.ensures in
    let seal = start.good fits.0.scene.state fits.1.good in
    let s : Parts = parts c.seal_start.new.c in
    failed-due c.args.i (next_lsn (log_at old c.args.i) 0) c.in_ok-epoch.epoch (log_at s c.args.i).spare
    (g.G.Rig.seen rig) (g.G.Rig.leaves rig) old s fits.0 fits.1 c.keeps.ensures.low c.keeps.ensures.high
    c.in_ok-may_start.ensures.waits start.parts (parts c.force_log.new.self) seal.shape c.in-Err.ensures.failed

pub returns-in_err-may_start-clause-served : goal.returns-in_err-may_start-clause-served
returns-in_err-may_start-clause-served g c =
    let old = c.args.c.now in
    let tell = telling g.G.Rig.seen g.G.Rig.leaves g.G.Rig.moment g.G.Rig.since g.G.Rig.faults in
    let p = err_from_is_err_and c.from_residual.result c.from_residual.ensures.1 in
    subst (λ (r : Result ℕ Refusal). Serving tell (Join c.args.i) (joined_reply r) old old)
    (sym (p.1 ∙ ap (λ (n : Refusal). Err n) p.2))
    (stays-out tell old old c.args.i c.keeps.ensures.low c.keeps.ensures.high refl refl
    (λ img since. g.met.G.Rig.only_now old.rig img since) c.in_err-may_start.field-0.0 c.in_err-may_start.ensures.refused)

pub returns-in_err-epoch-clause-served : goal.returns-in_err-epoch-clause-served
returns-in_err-epoch-clause-served g c =
    let old = c.args.c.now in
    let tell = telling g.G.Rig.seen g.G.Rig.leaves g.G.Rig.moment g.G.Rig.since g.G.Rig.faults in
    let p = err_from_is_err_and c.from_residual-in_err-epoch.result c.from_residual-in_err-epoch.ensures.1 in
    let seal = c.in_err-epoch.ensures in
    subst (λ (r : Result ℕ Refusal). Serving tell (Join c.args.i) (joined_reply r) old c.seal_start.new.c)
    (sym (p.1 ∙ ap (λ (n : Refusal). Err n) p.2))
    (seal-refused tell old c.seal_start.new.c c.args.i c.keeps.ensures.low c.keeps.ensures.high seal.rig
    seal.stays
    (λ img since. g.met.G.Rig.only_now old.rig img since) c.in_ok-may_start.ensures.waits c.in_err-epoch.field-0.0
    seal.refusals (λ e. seal.full.0 (ap (λ (n : Refusal). Err n) e))
    (λ e. (seal.lsns.0 (ap (λ (n : Refusal). Err n) e)).1))

pub returns-in-Ok-clause-served : goal.returns-in-Ok-clause-served
returns-in-Ok-clause-served g c =
    let old = c.args.c.now in
    let s = c.seal_start.new.c in
    let k = c.force_log.new.self in
    let i : ℕ = c.args.i in
    let tell = telling g.G.Rig.seen g.G.Rig.leaves g.G.Rig.moment g.G.Rig.since g.G.Rig.faults in
    let fits = c.requires.fits in
    let lsn : ℕ = next_lsn (log_at (parts old) i) 0 in
    let spare : ℕ = (log_at (parts s) i).spare in
    let start = c.in_ok-epoch.ensures in
    let force = c.force_log.ensures in
    let low = c.keeps.ensures.low in
    let high = c.keeps.ensures.high in
    let waits = c.in_ok-may_start.ensures.waits in
    let settled = start-settled i lsn c.in_ok-epoch.epoch spare (tell.seen old.rig) (tell.leaves old.rig) (parts old)
    (parts s) fits.0 fits.1
    low high waits start.parts in
    let h : HasStarted tell i lsn c.in_ok-epoch.epoch spare old s k = record {
      low = low;
      high = high;
      waits = waits;
      next = refl;
      same = start.rig;
      is = start.parts;
      good = start.good;
      good_then = force.good;
      images = force.images;
      time = force.time;
      others = force.others;
      masters = force.masters;
    } in
    let join = c.joined.ensures in (
      λ w f. joins tell i lsn c.in_ok-epoch.epoch spare old s k h w f c.joined.new.self (c.in-Ok.ensures.forced settled)
          join.rig join.parts join.good join.may,
      ap tell.faults join.rig ∙ c.in-Ok.ensures.quiet ∙ ap tell.faults start.rig,
    )

pub returns-in-Err-clause-served : goal.returns-in-Err-clause-served
returns-in-Err-clause-served g c =
    let old = c.args.c.now in
    let s = c.seal_start.new.c in
    let k = c.force_log.new.self in
    let i : ℕ = c.args.i in
    let tell = telling g.G.Rig.seen g.G.Rig.leaves g.G.Rig.moment g.G.Rig.since g.G.Rig.faults in
    let lsn : ℕ = next_lsn (log_at (parts old) i) 0 in
    let spare : ℕ = (log_at (parts s) i).spare in
    let start = c.in_ok-epoch.ensures in
    let force = c.force_log.ensures in
    let h : HasStarted tell i lsn c.in_ok-epoch.epoch spare old s k = record {
      low = c.keeps.ensures.low;
      high = c.keeps.ensures.high;
      waits = c.in_ok-may_start.ensures.waits;
      next = refl;
      same = start.rig;
      is = start.parts;
      good = start.good;
      good_then = force.good;
      images = force.images;
      time = force.time;
      others = force.others;
      masters = force.masters;
    } in
    let down = c.down.ensures in (
      λ w f. fails-join tell i lsn c.in_ok-epoch.epoch spare old s k h w f (actor (parts s) i) c.down.new.c
          c.in-Err.ensures.failed down.rig down.parts down.fallen down.started,
      subst (λ (n : ℕ). Rises (tell.faults old.rig) n) (sym (ap tell.faults down.rig))
          (subst (λ (n : ℕ). Rises n (tell.faults k.rig)) (ap tell.faults start.rig) c.in-Err.ensures.cause),
    )

-- ---- what no world has, and calls of devices

same-err : (a b : Refusal) → ◌≡◌ {A = Result ℕ Refusal} (Err a) (Err b) → a ≡ b
same-err a b e = cc

pub returns-in_err-may_start-clause-fell : goal.returns-in_err-may_start-clause-fell
returns-in_err-may_start-clause-fell g c = λ e.
    let p = err_from_is_err_and c.from_residual.result c.from_residual.ensures.1 in
    absurd (out-failed (parts c.args.c.now) c.args.i c.in_err-may_start.field-0.0 c.in_err-may_start.ensures.refused
    (same-err c.in_err-may_start.field-0.0 R.Failed (sym (p.1 ∙ ap (λ (k : Refusal). Err k) p.2) ∙ e)))

pub returns-in_err-may_start-clause-refused : goal.returns-in_err-may_start-clause-refused
returns-in_err-may_start-clause-refused g c =
    let old = c.args.c.now in
    let p = err_from_is_err_and c.from_residual.result c.from_residual.ensures.1 in
    subst (λ (r : Result ℕ Refusal). IfErr r (λ (n : Refusal). n ≢ R.Failed → (parts old ≡ parts old) × (old.rig ≡ old.rig)))
    (sym (p.1 ∙ ap (λ (k : Refusal). Err k) p.2)) (λ ne. (refl, refl))

pub returns-in_err-epoch-clause-fell : goal.returns-in_err-epoch-clause-fell
returns-in_err-epoch-clause-fell g c = λ e.
    let p = err_from_is_err_and c.from_residual-in_err-epoch.result c.from_residual-in_err-epoch.ensures.1 in
    absurd (seal-failed c.in_err-epoch.field-0.0 c.in_err-epoch.ensures.refusals
    (same-err c.in_err-epoch.field-0.0 R.Failed (sym (p.1 ∙ ap (λ (k : Refusal). Err k) p.2) ∙ e)))

pub returns-in_err-epoch-clause-refused : goal.returns-in_err-epoch-clause-refused
returns-in_err-epoch-clause-refused g c =
    let old = c.args.c.now in
    let new = c.seal_start.new.c in
    let p = err_from_is_err_and c.from_residual-in_err-epoch.result c.from_residual-in_err-epoch.ensures.1 in
    subst (λ (r : Result ℕ Refusal). IfErr r (λ (n : Refusal). n ≢ R.Failed → (parts new ≡ parts old) × (new.rig ≡ old.rig)))
    (sym (p.1 ∙ ap (λ (k : Refusal). Err k) p.2)) (λ ne. (c.in_err-epoch.ensures.stays, c.in_err-epoch.ensures.rig))

pub returns-in-Ok-clause-untouched : goal.returns-in-Ok-clause-untouched
returns-in-Ok-clause-untouched g c =
    let fits = c.requires.fits in
    let old : Parts = parts c.args.c.now in
    let rig = c.args.c.now.rig in
    let start = c.in_ok-epoch.ensures in
    let n = c.keeps.ensures in
    let s : Parts = parts c.seal_start.new.c in
    let i : ℕ = c.args.i in
    let lsn : ℕ = next_lsn (log_at old i) 0 in
    let spare : ℕ = (log_at s i).spare in
    let settled = start-settled i lsn c.in_ok-epoch.epoch spare (g.G.Rig.seen rig) (g.G.Rig.leaves rig) old s fits.0 fits.1 n.low n.high
    c.in_ok-may_start.ensures.waits start.parts in
    join-untouched i lsn c.in_ok-epoch.epoch spare old s n.low n.high fits.1.good.shape start.parts _ _ (parts c.force_log.new.self)
    (parts c.joined.new.self) (c.in-Ok.ensures.forced settled) c.joined.ensures.parts

pub returns-in-Ok-clause-tick : goal.returns-in-Ok-clause-tick
returns-in-Ok-clause-tick g c =
    let fits = c.requires.fits in
    let old : Parts = parts c.args.c.now in
    let rig = c.args.c.now.rig in
    let moment = g.G.Rig.moment in
    let start = c.in_ok-epoch.ensures in
    let n = c.keeps.ensures in
    let s : Parts = parts c.seal_start.new.c in
    let i : ℕ = c.args.i in
    let lsn : ℕ = next_lsn (log_at old i) 0 in
    let spare : ℕ = (log_at s i).spare in
    let settled = start-settled i lsn c.in_ok-epoch.epoch spare (g.G.Rig.seen rig) (g.G.Rig.leaves rig) old s fits.0 fits.1 n.low n.high
    c.in_ok-may_start.ensures.waits start.parts in
    ap moment c.joined.ensures.rig
    ∙ c.in-Ok.ensures.tick settled (start-tail i lsn c.in_ok-epoch.epoch spare old s n.low n.high fits.1.good.shape start.parts)
    ∙ ap (λ d. moment d + 4) start.rig

pub returns-in-Err-clause-fell : goal.returns-in-Err-clause-fell
returns-in-Err-clause-fell g c = λ e.
    let fits = c.requires.fits in
    let old : Parts = parts c.args.c.now in
    let n = c.keeps.ensures in
    let s : Parts = parts c.seal_start.new.c in
    let i : ℕ = c.args.i in
    join-touches i (next_lsn (log_at old i) 0) c.in_ok-epoch.epoch (log_at s i).spare old s n.low n.high fits.1.good.shape
    c.in_ok-epoch.ensures.parts (actor s i) (parts c.force_log.new.self) (parts c.down.new.c) c.in-Err.ensures.failed c.down.ensures.parts
    c.down.ensures.fallen

pub returns-in-Err-clause-refused : goal.returns-in-Err-clause-refused
returns-in-Err-clause-refused g c = λ ne. absurd (ne refl)
