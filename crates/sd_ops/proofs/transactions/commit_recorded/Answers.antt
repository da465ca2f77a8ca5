use Rattle.sd_chain.specs.Records.{home}
use Rattle.sd_state.specs.Complexes.{parts}
use Rattle.sd_state.specs.Values.{Pending}
use Rattle.sd_txn.specs.declared.state.TxnState.{TxnState}
use Rattle.sd_world.specs.Serving.{Telling, telling}
use Rattle.sd_fits.proofs.Disk.{disk-leaves, disk-same}
use Rattle.sd_update.specs.Sealing.{commit_of}
use Rattle.sd_ops.proofs.Committing.{cut-served, forced-served}
use Rattle.sd_ops.proofs.Lasts.{ending, failed-due, forced-idle, no-tail-left, spelled-txn}
use Rattle.std.proofs.Common.{◌≡◌, false, ap, arith, refl}
use Rattle.sd_state.specs.Parts.{Parts, actor, is_loose, log_at, owed_at, txns_at}
use Rattle.sd_log.specs.Logs.{forced}
use Rattle.sd_state.proofs.WorkingGood.{working-settled}
use Rattle.sd_txn.specs.Transactions.{without}
use Rattle.sd_ops.proofs.Endings.{ended-settled, ended-tail, failed-left, forced-left}
use Rattle.sd_ops.proofs.transactions.commit_recorded.Goals as goal

pub seal_commit-requires-clause-numbered : goal.seal_commit-requires-clause-numbered
seal_commit-requires-clause-numbered g c =
    let rig = c.args.c.now.rig in
    let fits = c.requires.fits in
    let n = c.keeps.ensures in
    spelled-txn c.args.t.now TxnState.Running (g.G.Rig.seen rig) (g.G.Rig.leaves rig) (parts c.args.c.now) fits.0 fits.1 n.low n.high n.epoch n.seq
    c.requires.runs

pub force_log-requires-clause-good : goal.force_log-requires-clause-good
force_log-requires-clause-good g c =
    let t = c.args.t.now in
    let m = c.requires.fits.0.scene.state in
    (Pending.Commits t, m, c.seal_commit.ensures.good m c.requires.fits.1.good)

pub committed-requires-clause-good : goal.committed-requires-clause-good
committed-requires-clause-good g c =
    let t = c.args.t.now in
    let m = c.requires.fits.0.scene.state in
    (m, c.in-Ok.ensures.good (Pending.Commits t) m (c.seal_commit.ensures.good m c.requires.fits.1.good))

pub fall_in_commit-requires-clause-good : goal.fall_in_commit-requires-clause-good
fall_in_commit-requires-clause-good g c =
    let t = c.args.t.now in
    let m = c.requires.fits.0.scene.state in
    (m, c.in-Err.ensures.good (Pending.Commits t) m (c.seal_commit.ensures.good m c.requires.fits.1.good))

pub committed-requires-clause-idle : goal.committed-requires-clause-idle
committed-requires-clause-idle g c =
    let tell : Telling _ = telling g.G.Rig.seen g.G.Rig.leaves g.G.Rig.moment g.G.Rig.since g.G.Rig.faults in
    let t = c.args.t.now in
    let n = c.keeps.ensures in
    let r = c.requires in
    let s = c.seal_commit.ensures in
    let e = c.in-Ok.ensures in
    let k = ending tell t (λ x. commit_of t x (parts c.args.c.now)) (Pending.Commits t) c.args.c.now c.seal_commit.new.c
    c.force_log.new.self n.low n.high r.up r.there
    (λ dev few. g.met.G.Rig.leaves_seen c.args.c.now.rig dev few) s.rig s.parts s.good e.good e.images e.time e.others e.masters in
    forced-idle k e.forced r.fits.0 r.fits.1

pub committed-requires-clause-forced : goal.committed-requires-clause-forced
committed-requires-clause-forced g c =
    let tell : Telling _ = telling g.G.Rig.seen g.G.Rig.leaves g.G.Rig.moment g.G.Rig.since g.G.Rig.faults in
    let t = c.args.t.now in
    let n = c.keeps.ensures in
    let r = c.requires in
    let s = c.seal_commit.ensures in
    let e = c.in-Ok.ensures in
    let k = ending tell t (λ x. commit_of t x (parts c.args.c.now)) (Pending.Commits t) c.args.c.now c.seal_commit.new.c
    c.force_log.new.self n.low n.high r.up r.there
    (λ dev few. g.met.G.Rig.leaves_seen c.args.c.now.rig dev few) s.rig s.parts s.good e.good e.images e.time e.others e.masters in
    no-tail-left k e.forced r.fits.0 r.fits.1

pub returns-in-Ok-clause-served : goal.returns-in-Ok-clause-served
returns-in-Ok-clause-served g c =
    let tell : Telling _ = telling g.G.Rig.seen g.G.Rig.leaves g.G.Rig.moment g.G.Rig.since g.G.Rig.faults in
    let t = c.args.t.now in
    let n = c.keeps.ensures in
    let r = c.requires in
    let s = c.seal_commit.ensures in
    let e = c.in-Ok.ensures in
    let k = ending tell t (λ x. commit_of t x (parts c.args.c.now)) (Pending.Commits t) c.args.c.now c.seal_commit.new.c
    c.force_log.new.self n.low n.high r.up r.there
    (λ dev few. g.met.G.Rig.leaves_seen c.args.c.now.rig dev few) s.rig s.parts s.good e.good e.images e.time e.others e.masters in
    let d = c.committed.ensures in
    forced-served k r.runs e.forced c.committed.new.self d.rig e.quiet d.parts d.waits d.good

pub fall_in_commit-requires-clause-due : goal.fall_in_commit-requires-clause-due
fall_in_commit-requires-clause-due g c =
    let tell : Telling _ = telling g.G.Rig.seen g.G.Rig.leaves g.G.Rig.moment g.G.Rig.since g.G.Rig.faults in
    let t = c.args.t.now in
    let n = c.keeps.ensures in
    let r = c.requires in
    let s = c.seal_commit.ensures in
    let e = c.in-Err.ensures in
    let k = ending tell t (λ x. commit_of t x (parts c.args.c.now)) (Pending.Commits t) c.args.c.now c.seal_commit.new.c
    c.force_log.new.self n.low n.high r.up r.there
    (λ dev few. g.met.G.Rig.leaves_seen c.args.c.now.rig dev few) s.rig s.parts s.good e.good e.images e.time e.others e.masters in
    failed-due k e.failed r.fits.0 r.fits.1

pub returns-in-Err-clause-served : goal.returns-in-Err-clause-served
returns-in-Err-clause-served g c =
    let tell : Telling _ = telling g.G.Rig.seen g.G.Rig.leaves g.G.Rig.moment g.G.Rig.since g.G.Rig.faults in
    let t = c.args.t.now in
    let n = c.keeps.ensures in
    let r = c.requires in
    let s = c.seal_commit.ensures in
    let e = c.in-Err.ensures in
    let k = ending tell t (λ x. commit_of t x (parts c.args.c.now)) (Pending.Commits t) c.args.c.now c.seal_commit.new.c
    c.force_log.new.self n.low n.high r.up r.there
    (λ dev few. g.met.G.Rig.leaves_seen c.args.c.now.rig dev few) s.rig s.parts s.good e.good e.images e.time e.others e.masters in
    let d = c.fall_in_commit.ensures in
    cut-served k r.runs e.failed c.fall_in_commit.new.c d.rig d.parts d.fallen d.good e.cause

pub returns-in-Ok-clause-disk : goal.returns-in-Ok-clause-disk
returns-in-Ok-clause-disk g c =
    let tell : Telling _ = telling g.G.Rig.seen g.G.Rig.leaves g.G.Rig.moment g.G.Rig.since g.G.Rig.faults in
    disk-same tell (home c.args.t.now) c.keeps.ensures.low c.args.c.now c.seal_commit.new.c c.force_log.new.self c.committed.new.self
    c.seal_commit.ensures.rig c.committed.ensures.rig c.in-Ok.ensures.others

pub returns-in-Ok-clause-disk_leaves : goal.returns-in-Ok-clause-disk_leaves
returns-in-Ok-clause-disk_leaves g c =
    let tell : Telling _ = telling g.G.Rig.seen g.G.Rig.leaves g.G.Rig.moment g.G.Rig.since g.G.Rig.faults in
    disk-leaves tell (home c.args.t.now) c.keeps.ensures.low c.args.c.now c.seal_commit.new.c c.force_log.new.self c.committed.new.self
    c.seal_commit.ensures.rig c.committed.ensures.rig c.in-Ok.ensures.others_leave

pub returns-in-Err-clause-disk : goal.returns-in-Err-clause-disk
returns-in-Err-clause-disk g c =
    let tell : Telling _ = telling g.G.Rig.seen g.G.Rig.leaves g.G.Rig.moment g.G.Rig.since g.G.Rig.faults in
    disk-same tell (home c.args.t.now) c.keeps.ensures.low c.args.c.now c.seal_commit.new.c c.force_log.new.self c.fall_in_commit.new.c
    c.seal_commit.ensures.rig c.fall_in_commit.ensures.rig c.in-Err.ensures.others

pub returns-in-Err-clause-disk_leaves : goal.returns-in-Err-clause-disk_leaves
returns-in-Err-clause-disk_leaves g c =
    let tell : Telling _ = telling g.G.Rig.seen g.G.Rig.leaves g.G.Rig.moment g.G.Rig.since g.G.Rig.faults in
    disk-leaves tell (home c.args.t.now) c.keeps.ensures.low c.args.c.now c.seal_commit.new.c c.force_log.new.self c.fall_in_commit.new.c
    c.seal_commit.ensures.rig c.fall_in_commit.ensures.rig c.in-Err.ensures.others_leave

-- ---- what it leaves, and its device calls

pub returns-in-Ok-clause-untouched : goal.returns-in-Ok-clause-untouched
returns-in-Ok-clause-untouched g c =
    let t = c.args.t.now in
    let old : Parts = parts c.args.c.now in
    let sealed : Parts = parts c.seal_commit.new.c in
    let then : Parts = parts c.force_log.new.self in
    let r = c.requires in
    let rig = c.args.c.now.rig in
    let f = r.fits.1 in
    let ends = c.seal_commit.ensures.parts in
    let was : is_loose old (home t) ≡ false = working-settled (g.G.Rig.seen rig) (g.G.Rig.leaves rig) Pending.Idle old r.fits.0.scene.state (home t)
    f.good f.idle c.keeps.ensures.low r.up in
    let settled : is_loose sealed (home t) ≡ false = ended-settled t (λ x. commit_of t x old) old sealed then (parts c.committed.new.self) ends was in
    forced-left t (λ x. commit_of t x old) old sealed then (parts c.committed.new.self) ends (forced (log_at sealed (home t)))
    (owed_at then (home t)) (without (txns_at then (home t)) t) (c.in-Ok.ensures.forced settled) c.committed.ensures.parts

pub returns-in-Err-clause-untouched : goal.returns-in-Err-clause-untouched
returns-in-Err-clause-untouched g c =
    let t = c.args.t.now in
    let old : Parts = parts c.args.c.now in
    let sealed : Parts = parts c.seal_commit.new.c in
    let then : Parts = parts c.force_log.new.self in
    let r = c.requires in
    let n = c.keeps.ensures in
    let ends = c.seal_commit.ensures.parts in
    failed-left t (λ x. commit_of t x old) old sealed then (parts c.fall_in_commit.new.c) ends (actor sealed (home t)) n.low n.high
    r.fits.1.good.shape c.in-Err.ensures.failed c.fall_in_commit.ensures.parts c.fall_in_commit.ensures.fallen

pub returns-in-Ok-clause-tick : goal.returns-in-Ok-clause-tick
returns-in-Ok-clause-tick g c =
    let t = c.args.t.now in
    let old : Parts = parts c.args.c.now in
    let sealed : Parts = parts c.seal_commit.new.c in
    let r = c.requires in
    let n = c.keeps.ensures in
    let rig = c.args.c.now.rig in
    let f = r.fits.1 in
    let ends = c.seal_commit.ensures.parts in
    let was : is_loose old (home t) ≡ false = working-settled (g.G.Rig.seen rig) (g.G.Rig.leaves rig) Pending.Idle old r.fits.0.scene.state (home t)
    f.good f.idle n.low r.up in
    let settled : is_loose sealed (home t) ≡ false = ended-settled t (λ x. commit_of t x old) old sealed sealed sealed ends was in
    let first = ap (λ d. g.G.Rig.moment d) c.seal_commit.ensures.rig in
    let four = c.in-Ok.ensures.tick settled (ended-tail t (λ x. commit_of t x old) old sealed n.low n.high f.good.shape ends) in
    let last = ap (λ d. g.G.Rig.moment d) c.committed.ensures.rig in
    omega (arith, first, four, last)

pub returns-in-Err-clause-still : goal.returns-in-Err-clause-still
returns-in-Err-clause-still g c ne = absurd (ne refl)
