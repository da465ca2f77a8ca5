use Rattle.std.proofs.Common.{◌≡◌, inr, Bool, true, false, refl, sym, ap, ◌∙◌, subst, arith, rules}
use Rattle.std.specs.Prelude.{Ok, OnErr, Result}
use Rattle.sd_base.specs.declared.refusal.Failed.{Failed}
use Rattle.sd_log.specs.Logs.{LogState, forced}
use Rattle.sd_rig.specs.Devices.{LeavesSame}
use Rattle.sd_chain.proofs.Kept.{forced-tail}
use Rattle.sd_state.specs.Complexes.{parts}
use Rattle.sd_state.specs.Parts.{Parts, actor, is_loose, log_at, no_log, owed_at}
use Rattle.sd_state.specs.Values.{Pending}
use Rattle.sd_state.proofs.Items.{item-set}
use Rattle.sd_fits.proofs.Falling.{fallen-down}
use Rattle.sd_fits.specs.Untouched.{none_of, only}
use Rattle.sd_moves.proofs.PutCalls.{not-err}
use Rattle.sd_world.specs.Serving.{telling}
use Rattle.sd_transfer.specs.Forcing.{OnlyLogs, OthersKeepLogs}
use Rattle.sd_transfer.proofs.Forced.{force-due, force-fails, force-loose, force-spares, forced-logs, forced-others, forced-ticks, idle-rig, same-logs, was-err, was-settled}
use Rattle.sd_transfer.proofs.Rested.{fell-rests, logs-rest, of-log}
use Rattle.sd_transfer.proofs.Touched.{force-marks, force-touches, logs-untouched}
use Rattle.sd_transfer.proofs.forcing.force_or_fall.Goals as goal

pub down-requires-clause-good : goal.down-requires-clause-good
down-requires-clause-good g c =
    let fits = c.requires.fits in
    (Pending.Idle, fits.0.scene.state, c.force_log.ensures.good Pending.Idle fits.0.scene.state fits.1.good)

pub down-requires-clause-due : goal.down-requires-clause-due
down-requires-clause-due g c =
    let tell = telling g.G.Rig.seen g.G.Rig.leaves g.G.Rig.moment g.G.Rig.since g.G.Rig.faults in
    let force = c.force_log.ensures in
    let erred = c.if-is_err.ensures.value in
    let failed = was-err c.force_log.result _ erred force.failed in
    let settled = was-settled (is_loose (parts c.args.c.now) c.args.i) c.force_log.result (λ is. (force.loose is).2) erred in
    inr (
      c.args.i,
      force-due tell c.args.c.now c.force_log.new.self c.args.i c.keeps.ensures.low c.keeps.ensures.high force.good
          force.images
          force.time force.others force.masters failed settled c.requires.active,
      force-loose tell c.args.c.now c.force_log.new.self c.args.i c.keeps.ensures.low c.keeps.ensures.high force.good
          force.images
          force.time force.others force.masters failed settled c.requires.fits.0 c.requires.fits.1,
    )

pub returns-then-is_err-clause-failed : goal.returns-then-is_err-clause-failed
returns-then-is_err-clause-failed g c =
    let tell = telling g.G.Rig.seen g.G.Rig.leaves g.G.Rig.moment g.G.Rig.since g.G.Rig.faults in
    let force = c.force_log.ensures in
    let erred = c.if-is_err.ensures.value in
    let failed = was-err c.force_log.result _ erred force.failed in
    let settled = was-settled (is_loose (parts c.args.c.now) c.args.i) c.force_log.result (λ is. (force.loose is).2) erred in
    let down = c.down.ensures in
    force-fails tell c.args.c.now c.force_log.new.self c.args.i c.keeps.ensures.low c.keeps.ensures.high force.good
    force.images
    force.time force.others force.masters failed settled c.down.new.c down.rig down.parts down.fallen down.good
    (was-err c.force_log.result _ erred force.cause)

pub returns-clause-spared : goal.returns-clause-spared
returns-clause-spared g c =
    let tell = telling g.G.Rig.seen g.G.Rig.leaves g.G.Rig.moment g.G.Rig.since g.G.Rig.faults in
    let force = c.force_log.ensures in
    let ok = c.if-is_err.ensures.value in
    force-spares tell c.args.c.now c.force_log.new.self c.args.i c.keeps.ensures.low c.keeps.ensures.high force.good
    force.images
    force.time force.others force.masters (λ loose. let same = force.loose loose in (same.0, same.1))
    (λ settled. not-err c.force_log.result _ ok (force.forced settled)) (not-err c.force_log.result _ ok force.quiet)

pub returns-clause-forced : goal.returns-clause-forced
returns-clause-forced g c settled =
    let force = c.force_log.ensures in
    let is = not-err c.force_log.result _ c.if-is_err.ensures.value (force.forced settled) in
    let old : Parts = parts c.args.c.now in
    ap (λ (k : Parts). (log_at k c.args.i).tail) is
    ∙ ap (λ (l : LogState). l.tail) (item-set no_log old.logs c.args.i (forced (log_at old c.args.i)) c.keeps.ensures.low
    c.keeps.ensures.high c.requires.fits.1.good.shape.logs)
    ∙ forced-tail (log_at old c.args.i)

pub returns-clause-stays : goal.returns-clause-stays
returns-clause-stays g c = go (is_loose (parts c.args.c.now) c.args.i) refl
  where
    go : (b : Bool) → is_loose (parts c.args.c.now) c.args.i ≡ b → OnlyLogs (parts c.args.c.now) (parts c.force_log.new.self)
    go true is = same-logs (parts c.args.c.now) (parts c.force_log.new.self) (c.force_log.ensures.loose is).0
    go false is = forced-logs c.args.i (forced (log_at (parts c.args.c.now) c.args.i))
        (owed_at (parts c.force_log.new.self) c.args.i)
        (parts c.args.c.now) (parts c.force_log.new.self)
        (not-err c.force_log.result _ c.if-is_err.ensures.value (c.force_log.ensures.forced is))

pub returns-clause-disk_leaves : goal.returns-clause-disk_leaves
returns-clause-disk_leaves g c = c.force_log.ensures.others_leave 0 (omega (arith, c.keeps.ensures.low))

pub returns-then-is_err-clause-disk : goal.returns-then-is_err-clause-disk
returns-then-is_err-clause-disk g c = ap (λ (d : g.row.G.Denot). g.G.Rig.seen d 0) c.down.ensures.rig
    ∙ c.force_log.ensures.others 0 (omega (arith, c.keeps.ensures.low))

pub returns-then-is_err-clause-disk_leaves : goal.returns-then-is_err-clause-disk_leaves
returns-then-is_err-clause-disk_leaves g c =
    subst (λ (d : g.row.G.Denot). LeavesSame (g.G.Rig.leaves c.args.c.now.rig 0) (g.G.Rig.leaves d 0)) (sym c.down.ensures.rig)
    (c.force_log.ensures.others_leave 0 (omega (arith, c.keeps.ensures.low)))

pub returns-then-is_err-clause-down : goal.returns-then-is_err-clause-down
returns-then-is_err-clause-down g c = search (rules, fallen-down)

pub returns-then-is_err-clause-marks : goal.returns-then-is_err-clause-marks
returns-then-is_err-clause-marks g c =
    let old : Parts = parts c.args.c.now in
    force-marks c.args.i (actor old c.args.i) old (parts c.force_log.new.self) (parts c.down.new.c) c.keeps.ensures.low
    c.keeps.ensures.high c.requires.fits.1.good.shape.loose
    (was-err c.force_log.result _ c.if-is_err.ensures.value c.force_log.ensures.failed) c.down.ensures.fallen

pub returns-clause-others : goal.returns-clause-others
returns-clause-others g c = go (is_loose (parts c.args.c.now) c.args.i) refl
  where
    go : (b : Bool) → is_loose (parts c.args.c.now) c.args.i ≡ b
        → OthersKeepLogs c.args.i (parts c.args.c.now) (parts c.force_log.new.self)
    go true is = λ k ne. ap (λ (x : Parts). log_at x k) (c.force_log.ensures.loose is).0
    go false is = forced-others c.args.i (forced (log_at (parts c.args.c.now) c.args.i))
        (owed_at (parts c.force_log.new.self) c.args.i)
        (parts c.args.c.now) (parts c.force_log.new.self) c.keeps.ensures.low
        (not-err c.force_log.result _ c.if-is_err.ensures.value (c.force_log.ensures.forced is))

pub returns-clause-untouched : goal.returns-clause-untouched
returns-clause-untouched g c =
    logs-untouched none_of none_of (parts c.args.c.now) (parts c.force_log.new.self) (returns-clause-stays g c)

pub returns-clause-rest : goal.returns-clause-rest
returns-clause-rest g c = logs-rest (parts c.args.c.now) (parts c.force_log.new.self) (returns-clause-stays g c)

pub returns-clause-idle : goal.returns-clause-idle
returns-clause-idle g c = idle-rig c.args.i (parts c.args.c.now) c.args.c.now.rig c.force_log.new.self.rig
    (λ is. (c.force_log.ensures.loose is).1) (λ none. (c.force_log.ensures.idle none).1)

pub returns-clause-tick : goal.returns-clause-tick
returns-clause-tick g c = forced-ticks c.args.i (parts c.args.c.now) (g.G.Rig.moment c.args.c.now.rig)
    (g.G.Rig.moment c.force_log.new.self.rig)
    (λ is. ap (λ (d : g.row.G.Denot). g.G.Rig.moment d) (c.force_log.ensures.loose is).1)
    (λ none. ap (λ (d : g.row.G.Denot). g.G.Rig.moment d) (c.force_log.ensures.idle none).1)
    (λ is some. not-err c.force_log.result _ c.if-is_err.ensures.value (c.force_log.ensures.tick is some))

pub returns-then-is_err-clause-untouched : goal.returns-then-is_err-clause-untouched
returns-then-is_err-clause-untouched g c =
    let old : Parts = parts c.args.c.now in
    force-touches c.args.i (actor old c.args.i) old (parts c.force_log.new.self) (parts c.down.new.c) c.keeps.ensures.low
    c.keeps.ensures.high c.requires.fits.1.good.shape.loose
    (was-err c.force_log.result _ c.if-is_err.ensures.value c.force_log.ensures.failed) c.down.ensures.parts c.down.ensures.fallen

pub returns-then-is_err-clause-rest : goal.returns-then-is_err-clause-rest
returns-then-is_err-clause-rest g c = fell-rests c.args.i (only c.args.i) none_of (parts c.args.c.now) (parts c.down.new.c)
    (returns-then-is_err-clause-untouched g c) c.requires.active c.keeps.ensures.high (of-log c.args.i)

-- where nothing is to be forced no device is called
pub returns-then-is_err-clause-sure : goal.returns-then-is_err-clause-sure
returns-then-is_err-clause-sure g c calls =
    let done = idle-rig c.args.i (parts c.args.c.now) (Ok tt) c.force_log.result
    (λ is. (c.force_log.ensures.loose is).2) (λ none. (c.force_log.ensures.idle none).0) calls in
    absurd (was-err c.force_log.result ⊥ c.if-is_err.ensures.value (subst (λ (r : Result (Unit {0}) Failed). OnErr r ⊥) (sym done) tt))

pub returns-then-is_err-clause-idle : goal.returns-then-is_err-clause-idle
returns-then-is_err-clause-idle g c calls = c.down.ensures.rig
    ∙ idle-rig c.args.i (parts c.args.c.now) c.args.c.now.rig c.force_log.new.self.rig
    (λ is. (c.force_log.ensures.loose is).1) (λ none. (c.force_log.ensures.idle none).1) calls
