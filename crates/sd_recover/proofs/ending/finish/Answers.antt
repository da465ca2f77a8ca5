use Rattle.std.proofs.Common.{◌≡◌, ℕ, [], ap, ◌∙◌, sym, subst}
use Rattle.std.specs.List.{IsDistinct}
use Rattle.sd_base.specs.Ids.{same_txn}
use Rattle.sd_log.specs.Logs.{LogState}
use Rattle.sd_chain.proofs.Kept.{forced-tail}
use Rattle.sd_state.specs.Complexes.{parts}
use Rattle.sd_state.specs.Parts.{Parts, log_at, owed_at, txns_at}
use Rattle.sd_txn.specs.Transactions.{Transactions, ids}
use Rattle.sd_world.specs.Serving.{Core, Telling, telling}
use Rattle.sd_fits.specs.Fits.{Fits}
use Rattle.sd_state.specs.Recovering.{MayEnd}
use Rattle.sd_recover.specs.Tasks.{IsRowTask, tasks_in}
use Rattle.sd_recover.specs.declared.tasks.Task.TheVariants as task
use Rattle.sd_recover.proofs.Doing.{finish-untouched}
use Rattle.sd_recover.proofs.Finished.{may-finish, none-left}
use Rattle.sd_recover.proofs.Lowered.{steps-none}
use Rattle.sd_recover.proofs.Reading.{apart-ids}
use Rattle.sd_recover.proofs.Steps.{log-forced}
use Rattle.sd_recover.proofs.Swept.{finishes, recovers-then, there-then}
use Rattle.sd_recover.proofs.ending.finish.Goals as goal

pub txns-requires : goal.txns-requires
txns-requires g c = let f = c.requires.fits in (c.in-Ok.ensures.spared.0 f.0 f.1).fits_still.good.shape

pub end_recovery-requires-clause-good : goal.end_recovery-requires-clause-good
end_recovery-requires-clause-good g c =
    let f = c.requires.fits in (f.0.scene.state, (c.in-Ok.ensures.spared.0 f.0 f.1).fits_still.good)

pub end_recovery-requires-clause-may : goal.end_recovery-requires-clause-may
end_recovery-requires-clause-may g c =
    let tell : Telling _ = telling g.G.Rig.seen g.G.Rig.leaves g.G.Rig.moment g.G.Rig.since g.G.Rig.faults in
    let old = c.args.c.now in
    let mid = c.at_rest.new.c in
    let i : ℕ = c.args.i in
    let n = c.keeps.ensures in
    let r = c.requires in
    let f = r.fits in
    let e = c.in-Ok.ensures in
    let there = (e.spared.0 f.0 f.1).fits_still in
    let tail : (log_at (parts mid) i).tail ≡ [] = ap (λ (p : Parts). (log_at p i).tail) e.parts
    ∙ ap (λ (l : LogState). l.tail) (log-forced i i (owed_at (parts mid) i) (parts old) f.1.good.shape.logs n.low n.high)
    ∙ forced-tail (log_at (parts old) i) in
    may-finish i c.args.by (tell.seen mid.rig) (tell.leaves mid.rig) (parts mid) f.0 there n.low n.high
    (recovers-then tell i c.args.by old mid n.low n.high r.recovers r.there e.spared e.parts)
    (there-then tell i c.args.by old mid n.low n.high r.recovers r.there e.spared e.parts)
    (subst (λ (p : Parts). IsRowTask (txns_at p i) task.Done) (sym e.parts) r.done) tail

pub returns-in-Ok-clause-served : goal.returns-in-Ok-clause-served
returns-in-Ok-clause-served g c =
    let tell : Telling _ = telling g.G.Rig.seen g.G.Rig.leaves g.G.Rig.moment g.G.Rig.since g.G.Rig.faults in
    let old = c.args.c.now in
    let mid = c.at_rest.new.c in
    let i : ℕ = c.args.i in
    let n = c.keeps.ensures in
    let r = c.requires in
    let e = c.in-Ok.ensures in
    let d = c.end_recovery.ensures in
    let once : IsDistinct same_txn (ids (txns_at (parts mid) i)) =
    subst (λ (tb : Transactions). IsDistinct same_txn (ids tb)) c.txns.ensures c.keeps-in-Ok.ensures.once in
    let may : (w : Core) → Fits (tell.seen mid.rig) (tell.leaves mid.rig) (parts mid) w → MayEnd i (parts mid) = λ w there.
    let tail : (log_at (parts mid) i).tail ≡ [] = ap (λ (p : Parts). (log_at p i).tail) e.parts
    ∙ ap (λ (l : LogState). l.tail) (log-forced i i (owed_at (parts mid) i) (parts old) r.fits.1.good.shape.logs n.low n.high)
    ∙ forced-tail (log_at (parts old) i) in
    may-finish i c.args.by (tell.seen mid.rig) (tell.leaves mid.rig) (parts mid) w there n.low n.high
    (recovers-then tell i c.args.by old mid n.low n.high r.recovers r.there e.spared e.parts)
    (there-then tell i c.args.by old mid n.low n.high r.recovers r.there e.spared e.parts)
    (subst (λ (p : Parts). IsRowTask (txns_at p i) task.Done) (sym e.parts) r.done) tail in
    finishes tell i c.args.by old mid n.low n.high r.recovers r.there e.spared e.parts c.end_recovery.new.c d.rig may once d.parts d.locks d.waits d.good

pub returns-in-Ok-clause-none : goal.returns-in-Ok-clause-none
returns-in-Ok-clause-none g c =
    let tell : Telling _ = telling g.G.Rig.seen g.G.Rig.leaves g.G.Rig.moment g.G.Rig.since g.G.Rig.faults in
    let old = c.args.c.now in
    let mid = c.at_rest.new.c in
    let i : ℕ = c.args.i in
    let n = c.keeps.ensures in
    let r = c.requires in
    let f = r.fits in
    let e = c.in-Ok.ensures in
    let there = (e.spared.0 f.0 f.1).fits_still in
    let tail : (log_at (parts mid) i).tail ≡ [] = ap (λ (p : Parts). (log_at p i).tail) e.parts
    ∙ ap (λ (l : LogState). l.tail) (log-forced i i (owed_at (parts mid) i) (parts old) f.1.good.shape.logs n.low n.high)
    ∙ forced-tail (log_at (parts old) i) in
    let may : MayEnd i (parts mid) = may-finish i c.args.by (tell.seen mid.rig) (tell.leaves mid.rig) (parts mid) f.0 there n.low n.high
    (recovers-then tell i c.args.by old mid n.low n.high r.recovers r.there e.spared e.parts)
    (there-then tell i c.args.by old mid n.low n.high r.recovers r.there e.spared e.parts)
    (subst (λ (p : Parts). IsRowTask (txns_at p i) task.Done) (sym e.parts) r.done) tail in
    let once : IsDistinct same_txn (ids (txns_at (parts mid) i)) =
    subst (λ (tb : Transactions). IsDistinct same_txn (ids tb)) c.txns.ensures c.keeps-in-Ok.ensures.once in
    steps-none i (tell.seen old.rig) (parts old) n.high r.there
    (sym (ap (λ (p : Parts). tasks_in (txns_at p i)) e.parts) ∙ none-left i (parts mid) may (apart-ids (ids (txns_at (parts mid) i)) once))

pub returns-in-Ok-clause-ended : goal.returns-in-Ok-clause-ended
returns-in-Ok-clause-ended g c = finish-untouched c.args.i (parts c.args.c.now) (parts c.at_rest.new.c) (parts c.end_recovery.new.c)
    c.in-Ok.ensures.parts c.end_recovery.ensures.parts
