use Rattle.std.proofs.Common.{inr, refl, sym, subst, ◌≡◌, false, ap, arith}
use Rattle.std.specs.Prelude.{IsOk, None}
use Rattle.sd_base.proofs.Results.{when_ok}
use Rattle.sd_chain.specs.Records.{home}
use Rattle.sd_txn.specs.declared.state.TxnState.{TxnState}
use Rattle.sd_state.specs.Complexes.{parts}
use Rattle.sd_state.specs.Values.{Pending}
use Rattle.sd_world.specs.Serving.{Telling, telling}
use Rattle.sd_fits.proofs.Disk.{disk-leaves, disk-same}
use Rattle.sd_update.specs.Sealing.{end_of}
use Rattle.sd_ops.proofs.Finishing.{failed-served, forced-bare, forced-rolls, forced-served, may-end}
use Rattle.sd_ops.proofs.Lasts.{ending, failed-due, forced-idle, forced-up, no-tail-left, spelled-txn}
use Rattle.sd_fits.proofs.Falling.{fallen-down}
use Rattle.sd_state.specs.Parts.{Parts, actor, is_loose, log_at, owed_at, txns_at}
use Rattle.sd_log.specs.Logs.{forced}
use Rattle.sd_state.proofs.WorkingGood.{working-settled}
use Rattle.sd_txn.specs.Transactions.{without}
use Rattle.sd_ops.proofs.Endings.{ended-settled, ended-tail, failed-left, forced-left}
use Rattle.sd_ops.proofs.ending.finish_recorded.Goals as goal

pub seal_end-requires-clause-numbered : goal.seal_end-requires-clause-numbered
seal_end-requires-clause-numbered g c =
    let rig = c.args.c.now.rig in
    let fits = c.requires.fits in
    let n = c.keeps.ensures in
    spelled-txn c.args.t.now (TxnState.Rolling None) (g.G.Rig.seen rig) (g.G.Rig.leaves rig) (parts c.args.c.now) fits.0 fits.1 n.low n.high n.epoch n.seq
    c.requires.rolls

pub seal_end-requires-clause-may : goal.seal_end-requires-clause-may
seal_end-requires-clause-may g c = may-end c.args.t.now (parts c.args.c.now) c.requires.up c.requires.rolls c.requires.empty c.requires.there

pub unwrap-requires : goal.unwrap-requires
unwrap-requires g c = subst IsOk (sym (c.seal_end.ensures.there c.requires.up)) refl

pub force_log-requires-clause-good : goal.force_log-requires-clause-good
force_log-requires-clause-good g c =
    let m = c.requires.fits.0.scene.state in
    (Pending.Idle, m, c.seal_end.ensures.good m c.requires.fits.1.good)

pub rolled_back-requires-clause-good : goal.rolled_back-requires-clause-good
rolled_back-requires-clause-good g c =
    let m = c.requires.fits.0.scene.state in
    (m, c.in-Ok.ensures.good Pending.Idle m (c.seal_end.ensures.good m c.requires.fits.1.good))

pub down-requires-clause-good : goal.down-requires-clause-good
down-requires-clause-good g c =
    let m = c.requires.fits.0.scene.state in
    (Pending.Idle, m, c.in-Err.ensures.good Pending.Idle m (c.seal_end.ensures.good m c.requires.fits.1.good))

pub rolled_back-requires-clause-idle : goal.rolled_back-requires-clause-idle
rolled_back-requires-clause-idle g c =
    let tell : Telling _ = telling g.G.Rig.seen g.G.Rig.leaves g.G.Rig.moment g.G.Rig.since g.G.Rig.faults in
    let t = c.args.t.now in
    let n = c.keeps.ensures in
    let r = c.requires in
    let s = c.seal_end.ensures in
    let e = c.in-Ok.ensures in
    let ends = when_ok c.seal_end.result tt _ (s.there r.up) s.parts in
    let k = ending tell t (λ x. end_of t x (parts c.args.c.now)) Pending.Idle c.args.c.now c.seal_end.new.c c.force_log.new.self
    n.low n.high r.up r.there
    (λ dev few. g.met.G.Rig.leaves_seen c.args.c.now.rig dev few) s.rig ends s.good e.good e.images e.time e.others e.masters in
    forced-idle k e.forced r.fits.0 r.fits.1

pub rolled_back-requires-clause-up : goal.rolled_back-requires-clause-up
rolled_back-requires-clause-up g c =
    let tell : Telling _ = telling g.G.Rig.seen g.G.Rig.leaves g.G.Rig.moment g.G.Rig.since g.G.Rig.faults in
    let t = c.args.t.now in
    let n = c.keeps.ensures in
    let r = c.requires in
    let s = c.seal_end.ensures in
    let e = c.in-Ok.ensures in
    let ends = when_ok c.seal_end.result tt _ (s.there r.up) s.parts in
    let k = ending tell t (λ x. end_of t x (parts c.args.c.now)) Pending.Idle c.args.c.now c.seal_end.new.c c.force_log.new.self
    n.low n.high r.up r.there
    (λ dev few. g.met.G.Rig.leaves_seen c.args.c.now.rig dev few) s.rig ends s.good e.good e.images e.time e.others e.masters in
    forced-up k e.forced r.fits.0 r.fits.1

pub rolled_back-requires-clause-rolls : goal.rolled_back-requires-clause-rolls
rolled_back-requires-clause-rolls g c =
    let tell : Telling _ = telling g.G.Rig.seen g.G.Rig.leaves g.G.Rig.moment g.G.Rig.since g.G.Rig.faults in
    let t = c.args.t.now in
    let n = c.keeps.ensures in
    let r = c.requires in
    let s = c.seal_end.ensures in
    let e = c.in-Ok.ensures in
    let ends = when_ok c.seal_end.result tt _ (s.there r.up) s.parts in
    let k = ending tell t (λ x. end_of t x (parts c.args.c.now)) Pending.Idle c.args.c.now c.seal_end.new.c c.force_log.new.self
    n.low n.high r.up r.there
    (λ dev few. g.met.G.Rig.leaves_seen c.args.c.now.rig dev few) s.rig ends s.good e.good e.images e.time e.others e.masters in
    forced-rolls k r.rolls r.empty e.forced r.fits.0 r.fits.1

pub rolled_back-requires-clause-bare : goal.rolled_back-requires-clause-bare
rolled_back-requires-clause-bare g c =
    let tell : Telling _ = telling g.G.Rig.seen g.G.Rig.leaves g.G.Rig.moment g.G.Rig.since g.G.Rig.faults in
    let t = c.args.t.now in
    let n = c.keeps.ensures in
    let r = c.requires in
    let s = c.seal_end.ensures in
    let e = c.in-Ok.ensures in
    let ends = when_ok c.seal_end.result tt _ (s.there r.up) s.parts in
    let k = ending tell t (λ x. end_of t x (parts c.args.c.now)) Pending.Idle c.args.c.now c.seal_end.new.c c.force_log.new.self
    n.low n.high r.up r.there
    (λ dev few. g.met.G.Rig.leaves_seen c.args.c.now.rig dev few) s.rig ends s.good e.good e.images e.time e.others e.masters in
    forced-bare k r.rolls r.empty e.forced r.fits.0 r.fits.1

pub rolled_back-requires-clause-ended : goal.rolled_back-requires-clause-ended
rolled_back-requires-clause-ended g c =
    let tell : Telling _ = telling g.G.Rig.seen g.G.Rig.leaves g.G.Rig.moment g.G.Rig.since g.G.Rig.faults in
    let t = c.args.t.now in
    let n = c.keeps.ensures in
    let r = c.requires in
    let s = c.seal_end.ensures in
    let e = c.in-Ok.ensures in
    let ends = when_ok c.seal_end.result tt _ (s.there r.up) s.parts in
    let k = ending tell t (λ x. end_of t x (parts c.args.c.now)) Pending.Idle c.args.c.now c.seal_end.new.c c.force_log.new.self
    n.low n.high r.up r.there
    (λ dev few. g.met.G.Rig.leaves_seen c.args.c.now.rig dev few) s.rig ends s.good e.good e.images e.time e.others e.masters in
    inr (no-tail-left k e.forced r.fits.0 r.fits.1)

pub returns-in-Ok-clause-served : goal.returns-in-Ok-clause-served
returns-in-Ok-clause-served g c =
    let tell : Telling _ = telling g.G.Rig.seen g.G.Rig.leaves g.G.Rig.moment g.G.Rig.since g.G.Rig.faults in
    let t = c.args.t.now in
    let n = c.keeps.ensures in
    let r = c.requires in
    let s = c.seal_end.ensures in
    let e = c.in-Ok.ensures in
    let ends = when_ok c.seal_end.result tt _ (s.there r.up) s.parts in
    let k = ending tell t (λ x. end_of t x (parts c.args.c.now)) Pending.Idle c.args.c.now c.seal_end.new.c c.force_log.new.self
    n.low n.high r.up r.there
    (λ dev few. g.met.G.Rig.leaves_seen c.args.c.now.rig dev few) s.rig ends s.good e.good e.images e.time e.others e.masters in
    let d = c.rolled_back.ensures in
    forced-served k r.rolls r.empty e.forced c.rolled_back.new.self d.rig e.quiet d.parts d.waits d.good

pub down-requires-clause-due : goal.down-requires-clause-due
down-requires-clause-due g c =
    let tell : Telling _ = telling g.G.Rig.seen g.G.Rig.leaves g.G.Rig.moment g.G.Rig.since g.G.Rig.faults in
    let t = c.args.t.now in
    let n = c.keeps.ensures in
    let r = c.requires in
    let s = c.seal_end.ensures in
    let e = c.in-Err.ensures in
    let ends = when_ok c.seal_end.result tt _ (s.there r.up) s.parts in
    let k = ending tell t (λ x. end_of t x (parts c.args.c.now)) Pending.Idle c.args.c.now c.seal_end.new.c c.force_log.new.self
    n.low n.high r.up r.there
    (λ dev few. g.met.G.Rig.leaves_seen c.args.c.now.rig dev few) s.rig ends s.good e.good e.images e.time e.others e.masters in
    failed-due k e.failed r.fits.0 r.fits.1

pub returns-in-Err-clause-served : goal.returns-in-Err-clause-served
returns-in-Err-clause-served g c =
    let tell : Telling _ = telling g.G.Rig.seen g.G.Rig.leaves g.G.Rig.moment g.G.Rig.since g.G.Rig.faults in
    let t = c.args.t.now in
    let n = c.keeps.ensures in
    let r = c.requires in
    let s = c.seal_end.ensures in
    let e = c.in-Err.ensures in
    let ends = when_ok c.seal_end.result tt _ (s.there r.up) s.parts in
    let k = ending tell t (λ x. end_of t x (parts c.args.c.now)) Pending.Idle c.args.c.now c.seal_end.new.c c.force_log.new.self
    n.low n.high r.up r.there
    (λ dev few. g.met.G.Rig.leaves_seen c.args.c.now.rig dev few) s.rig ends s.good e.good e.images e.time e.others e.masters in
    let d = c.down.ensures in
    failed-served k r.rolls r.empty e.failed c.down.new.c d.rig d.parts d.fallen d.good e.cause

pub returns-in-Ok-clause-disk : goal.returns-in-Ok-clause-disk
returns-in-Ok-clause-disk g c =
    let tell : Telling _ = telling g.G.Rig.seen g.G.Rig.leaves g.G.Rig.moment g.G.Rig.since g.G.Rig.faults in
    disk-same tell (home c.args.t.now) c.keeps.ensures.low c.args.c.now c.seal_end.new.c c.force_log.new.self c.rolled_back.new.self
    c.seal_end.ensures.rig c.rolled_back.ensures.rig c.in-Ok.ensures.others

pub returns-in-Ok-clause-disk_leaves : goal.returns-in-Ok-clause-disk_leaves
returns-in-Ok-clause-disk_leaves g c =
    let tell : Telling _ = telling g.G.Rig.seen g.G.Rig.leaves g.G.Rig.moment g.G.Rig.since g.G.Rig.faults in
    disk-leaves tell (home c.args.t.now) c.keeps.ensures.low c.args.c.now c.seal_end.new.c c.force_log.new.self c.rolled_back.new.self
    c.seal_end.ensures.rig c.rolled_back.ensures.rig c.in-Ok.ensures.others_leave

pub returns-in-Err-clause-disk : goal.returns-in-Err-clause-disk
returns-in-Err-clause-disk g c =
    let tell : Telling _ = telling g.G.Rig.seen g.G.Rig.leaves g.G.Rig.moment g.G.Rig.since g.G.Rig.faults in
    disk-same tell (home c.args.t.now) c.keeps.ensures.low c.args.c.now c.seal_end.new.c c.force_log.new.self c.down.new.c
    c.seal_end.ensures.rig c.down.ensures.rig c.in-Err.ensures.others

pub returns-in-Err-clause-disk_leaves : goal.returns-in-Err-clause-disk_leaves
returns-in-Err-clause-disk_leaves g c =
    let tell : Telling _ = telling g.G.Rig.seen g.G.Rig.leaves g.G.Rig.moment g.G.Rig.since g.G.Rig.faults in
    disk-leaves tell (home c.args.t.now) c.keeps.ensures.low c.args.c.now c.seal_end.new.c c.force_log.new.self c.down.new.c
    c.seal_end.ensures.rig c.down.ensures.rig c.in-Err.ensures.others_leave

pub returns-in-Err-clause-down : goal.returns-in-Err-clause-down
returns-in-Err-clause-down g c = λ e. fallen-down (home c.args.t.now) (parts c.force_log.new.self) (parts c.down.new.c) c.down.ensures.fallen

-- ---- what it leaves, and its device calls

pub returns-in-Ok-clause-untouched : goal.returns-in-Ok-clause-untouched
returns-in-Ok-clause-untouched g c =
    let t = c.args.t.now in
    let old : Parts = parts c.args.c.now in
    let sealed : Parts = parts c.seal_end.new.c in
    let then : Parts = parts c.force_log.new.self in
    let r = c.requires in
    let rig = c.args.c.now.rig in
    let f = r.fits.1 in
    let ends = when_ok c.seal_end.result tt _ (c.seal_end.ensures.there r.up) c.seal_end.ensures.parts in
    let was : is_loose old (home t) ≡ false = working-settled (g.G.Rig.seen rig) (g.G.Rig.leaves rig) Pending.Idle old r.fits.0.scene.state (home t)
    f.good f.idle c.keeps.ensures.low r.up in
    let settled : is_loose sealed (home t) ≡ false = ended-settled t (λ x. end_of t x old) old sealed then (parts c.rolled_back.new.self) ends was in
    forced-left t (λ x. end_of t x old) old sealed then (parts c.rolled_back.new.self) ends (forced (log_at sealed (home t)))
    (owed_at then (home t)) (without (txns_at then (home t)) t) (c.in-Ok.ensures.forced settled) c.rolled_back.ensures.parts

pub returns-in-Err-clause-untouched : goal.returns-in-Err-clause-untouched
returns-in-Err-clause-untouched g c =
    let t = c.args.t.now in
    let old : Parts = parts c.args.c.now in
    let sealed : Parts = parts c.seal_end.new.c in
    let then : Parts = parts c.force_log.new.self in
    let r = c.requires in
    let n = c.keeps.ensures in
    let ends = when_ok c.seal_end.result tt _ (c.seal_end.ensures.there r.up) c.seal_end.ensures.parts in
    failed-left t (λ x. end_of t x old) old sealed then (parts c.down.new.c) ends (actor sealed (home t)) n.low n.high
    r.fits.1.good.shape c.in-Err.ensures.failed c.down.ensures.parts c.down.ensures.fallen

pub returns-in-Ok-clause-tick : goal.returns-in-Ok-clause-tick
returns-in-Ok-clause-tick g c =
    let t = c.args.t.now in
    let old : Parts = parts c.args.c.now in
    let sealed : Parts = parts c.seal_end.new.c in
    let r = c.requires in
    let n = c.keeps.ensures in
    let rig = c.args.c.now.rig in
    let f = r.fits.1 in
    let ends = when_ok c.seal_end.result tt _ (c.seal_end.ensures.there r.up) c.seal_end.ensures.parts in
    let was : is_loose old (home t) ≡ false = working-settled (g.G.Rig.seen rig) (g.G.Rig.leaves rig) Pending.Idle old r.fits.0.scene.state (home t)
    f.good f.idle n.low r.up in
    let settled : is_loose sealed (home t) ≡ false = ended-settled t (λ x. end_of t x old) old sealed sealed sealed ends was in
    let first = ap (λ d. g.G.Rig.moment d) c.seal_end.ensures.rig in
    let four = c.in-Ok.ensures.tick settled (ended-tail t (λ x. end_of t x old) old sealed n.low n.high f.good.shape ends) in
    let last = ap (λ d. g.G.Rig.moment d) c.rolled_back.ensures.rig in
    omega (arith, first, four, last)
