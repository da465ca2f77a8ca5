use Rattle.std.proofs.Common.{◌≡◌, inl, inr, ⊎_elim, ℕ, ◌≤◌, ap, arith, false, slice_set, subst, sym, ◌∙◌}
use Rattle.std.specs.List.{IsDistinct}
use Rattle.std.specs.Prelude.{Err, Result}
use Rattle.std.proofs.lemmas.Bool.{cases_eq}
use Rattle.sd_base.specs.Ids.{same_txn}
use Rattle.sd_moves.specs.declared.reread.Unsettled.{Unsettled}
use Rattle.sd_moves.specs.declared.reread.Unsettled.TheVariants as U
use Rattle.sd_world.specs.Serving.{telling}
use Rattle.sd_fits.specs.Untouched.{only}
use Rattle.sd_state.specs.Complexes.{parts}
use Rattle.sd_state.specs.Parts.{Parts, txns_at}
use Rattle.sd_txn.specs.Transactions.{Transactions, ids}
use Rattle.sd_recover.proofs.Doing.{settle-does}
use Rattle.sd_recover.proofs.Reading.{apart-ids}
use Rattle.sd_recover.proofs.Touched.{fall-alone}
use Rattle.sd_recover.proofs.Settled.{disk-served, log-served, only-read, reread-failed, settles-one, short-served, unsynced-served}
use Rattle.sd_recover.proofs.settling.settle_next.Goals as goal

not-unsynced : ◌≡◌ {A = Result (Unit {0}) Unsettled} (Err U.Unread) (Err U.Unsynced) → ⊥
not-unsynced e = cc

pub returns-in-Ok-clause-served : goal.returns-in-Ok-clause-served
returns-in-Ok-clause-served g c =
    let r = g.G.Rig in
    let tell = telling r.seen r.leaves r.moment r.since r.faults in
    let old = c.args.c.now in
    let new = c.settle.new.c in
    let dev : ℕ = c.args.dev in
    let n = c.keeps.ensures in
    let s = c.in-Ok.ensures in
    ⊎_elim
    (λ zero. disk-served tell old new c.args.i c.args.by dev n.low n.high c.requires.recovers s.less s.reads
    (λ d le. g.met.G.Rig.leaves_seen new.rig d le) s.images s.time (s.good (λ e. cc)) s.quiet (s.disk zero))
    (λ ne.
    let low : 1 ≤ dev = omega (arith, ne) in
    log-served tell old new c.args.i c.args.by dev n.low n.high c.requires.recovers s.less s.reads
    (λ d le. g.met.G.Rig.leaves_seen new.rig d le) s.images s.time (s.good (λ e. cc)) s.quiet low c.requires.device c.requires.loose
    (s.durable (λ e. cc)) (s.log low) (s.found low))
    (cases_eq dev 0)

pub returns-in-Ok-clause-settled : goal.returns-in-Ok-clause-settled
returns-in-Ok-clause-settled g c =
    let old : Parts = parts c.args.c.now in
    let new : Parts = parts c.settle.new.c in
    let dev : ℕ = c.args.dev in
    let s = c.in-Ok.ensures in
    settles-one old new dev c.requires.device c.requires.fits.1.good.shape.loose
    (⊎_elim
    (λ zero. ap (λ (k : Parts). k.loose) (s.disk zero) ∙ ap (λ (d : ℕ). slice_set old.loose d false) (sym zero))
    (λ ne. ap (λ (k : Parts). k.loose) (s.log (omega (arith, ne))))
    (cases_eq dev 0))

pub txns-requires : goal.txns-requires
txns-requires g c = c.requires.fits.1.good.shape

pub txns-requires-in-Ok : goal.txns-requires-in-Ok
txns-requires-in-Ok g c = let f = c.requires.fits in (c.in-Ok.ensures.good (λ e. cc) f.0.scene.state f.1.good).shape

pub returns-in-Ok-clause-did : goal.returns-in-Ok-clause-did
returns-in-Ok-clause-did g c =
    let r = g.G.Rig in
    let old : Parts = parts c.args.c.now in
    let new : Parts = parts c.settle.new.c in
    let i : ℕ = c.args.i in
    let dev : ℕ = c.args.dev in
    let n = c.keeps.ensures in
    let s = c.in-Ok.ensures in
    let nine = c.requires.fits.1.good.shape.loose in
    let once : IsDistinct same_txn (ids (txns_at old i)) =
    subst (λ (tb : Transactions). IsDistinct same_txn (ids tb)) c.txns.ensures c.keeps-3.ensures.once in
    let once' : IsDistinct same_txn (ids (txns_at new i)) =
    subst (λ (tb : Transactions). IsDistinct same_txn (ids tb)) c.txns-in-Ok.ensures c.keeps-in-Ok.ensures.once in
    settle-does i c.args.by dev (r.seen c.args.c.now.rig) (r.seen c.settle.new.c.rig) old new n.low n.high c.requires.device nine
    c.requires.loose (apart-ids (ids (txns_at old i)) once) (apart-ids (ids (txns_at new i)) once') s.reads
    (settles-one old new dev c.requires.device nine
    (⊎_elim
    (λ zero. ap (λ (k : Parts). k.loose) (s.disk zero) ∙ ap (λ (d : ℕ). slice_set old.loose d false) (sym zero))
    (λ ne. ap (λ (k : Parts). k.loose) (s.log (omega (arith, ne))))
    (cases_eq dev 0)))
    s.disk s.log s.found

pub returns-in-Err-Unsynced-clause-served : goal.returns-in-Err-Unsynced-clause-served
returns-in-Err-Unsynced-clause-served g c =
    let r = g.G.Rig in
    let tell = telling r.seen r.leaves r.moment r.since r.faults in
    let new = c.settle.new.c in
    let n = c.keeps.ensures in
    let s = c.in-Err-Unsynced.ensures in
    let why = ap (λ (e : Unsettled). Err e) c.in-Err-Unsynced.field-0-is in
    unsynced-served tell c.args.c.now new c.args.i c.args.by c.args.dev n.low n.high c.requires.recovers s.less s.reads
    (λ d le. g.met.G.Rig.leaves_seen new.rig d le) s.images s.time
    c.keeps-2.ensures.low c.keeps-2.ensures.high (s.unsynced why) (s.fallen why) (s.good_fallen why) (s.cause (inl why))

pub returns-in-Err-Unsynced-clause-left : goal.returns-in-Err-Unsynced-clause-left
returns-in-Err-Unsynced-clause-left g c =
    let why = ap (λ (e : Unsettled). Err e) c.in-Err-Unsynced.field-0-is in
    inl (fall-alone c.args.by (only c.args.dev) (parts c.args.c.now) (parts c.settle.new.c) c.keeps-2.ensures.low
    (c.in-Err-Unsynced.ensures.unsynced why) (c.in-Err-Unsynced.ensures.fallen why))

pub returns-in-Err-Unread-clause-served : goal.returns-in-Err-Unread-clause-served
returns-in-Err-Unread-clause-served g c =
    let r = g.G.Rig in
    let tell = telling r.seen r.leaves r.moment r.since r.faults in
    let new = c.settle.new.c in
    let n = c.keeps.ensures in
    let s = c.in-Err-Unread.ensures in
    let why = ap (λ (e : Unsettled). Err e) c.in-Err-Unread.field-0-is in
    reread-failed tell c.args.c.now new c.args.i c.args.by c.args.dev n.low n.high c.requires.recovers s.less s.reads
    (λ d le. g.met.G.Rig.leaves_seen new.rig d le) s.images s.time (s.unread (inl why)) (s.cause (inr why))

pub returns-in-Err-Unread-clause-left : goal.returns-in-Err-Unread-clause-left
returns-in-Err-Unread-clause-left g c =
    let r = g.G.Rig in
    let s = c.in-Err-Unread.ensures in
    let why = ap (λ (e : Unsettled). Err e) c.in-Err-Unread.field-0-is in
    inr (only-read (r.seen c.args.c.now.rig) (r.seen c.settle.new.c.rig) (r.leaves c.settle.new.c.rig) (parts c.args.c.now)
    (parts c.settle.new.c) c.args.dev c.requires.loose c.requires.lowest s.reads (s.unread (inl why))
    (s.durable (λ e. not-unsynced (sym why ∙ e))))

pub returns-in-Err-Memory-clause-served : goal.returns-in-Err-Memory-clause-served
returns-in-Err-Memory-clause-served g c =
    let r = g.G.Rig in
    let tell = telling r.seen r.leaves r.moment r.since r.faults in
    let new = c.settle.new.c in
    let n = c.keeps.ensures in
    let s = c.in-Err-Memory.ensures in
    let why = ap (λ (e : Unsettled). Err e) c.in-Err-Memory.field-0-is in
    short-served tell c.args.c.now new c.args.i c.args.by c.args.dev n.low n.high c.requires.recovers s.less s.reads
    (λ d le. g.met.G.Rig.leaves_seen new.rig d le) s.images s.time (s.unread (inr why)) (s.short why)

pub returns-in-Err-Memory-clause-left : goal.returns-in-Err-Memory-clause-left
returns-in-Err-Memory-clause-left g c = c.in-Err-Memory.ensures.unread (inr (ap (λ (e : Unsettled). Err e) c.in-Err-Memory.field-0-is))
