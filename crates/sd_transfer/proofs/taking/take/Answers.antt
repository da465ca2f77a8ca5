use Rattle.std.proofs.Common.{◌∙◌, ap, eq-eqb, refl, subst, sym}
use Rattle.std.specs.Prelude.{Result, Err}
use Rattle.std.proofs.lemmas.Result.{err_from_is_err_and}
use Rattle.sd_base.specs.declared.refusal.Refusal.{Refusal}
use Rattle.sd_model.specs.declared.event.Event.TheVariants.{Take}
use Rattle.sd_state.specs.Values.{Pending}
use Rattle.sd_fits.proofs.Resting.{rests-same}
use Rattle.sd_fits.specs.Serving.{Serving}
use Rattle.sd_fits.specs.Untouched.{none_of, only}
use Rattle.sd_pagelock.specs.Directory.{entry_at}
use Rattle.sd_pagelock.specs.Moves.{IsMove}
use Rattle.sd_pagelock.specs.Rows.{taken}
use Rattle.sd_pagelock.proofs.Losses.{changed-taken}
use Rattle.sd_pagelock.proofs.Uses.{receiver-passes}
use Rattle.sd_state.specs.Complexes.{parts}
use Rattle.sd_state.specs.Parts.{Parts, no_pool, pool_at}
use Rattle.sd_state.proofs.Items.{item-set}
use Rattle.sd_world.specs.Serving.{did, telling}
use Rattle.sd_transfer.specs.Paging.{OnlyPages}
use Rattle.sd_transfer.specs.Touching.{once_done}
use Rattle.sd_transfer.proofs.Rested.{asked-rest, moved-lost, pages-rest}
use Rattle.sd_transfer.proofs.Touched.{listed-untouched, none-done, placed-untouched, same-untouched, set-recs}
use Rattle.sd_transfer.proofs.Taken.{full-served, take-refused, take-spared, taken-served}
use Rattle.sd_fits.proofs.Refused.{unlike}
use Rattle.sd_transfer.proofs.taking.take.Goals as goal

pub returns-in_err-may_take-clause-served : goal.returns-in_err-may_take-clause-served
returns-in_err-may_take-clause-served g c =
    let old = c.args.c.now in
    let tell = telling g.G.Rig.seen g.G.Rig.leaves g.G.Rig.moment g.G.Rig.since g.G.Rig.faults in
    let p = err_from_is_err_and c.from_residual.result c.from_residual.ensures.1 in
    subst (λ (r : Result (Unit {0}) Refusal). Serving tell (Take c.args.i c.args.p) (did r) old old)
    (sym (p.1 ∙ ap (λ (n : Refusal). Err n) p.2))
    (take-refused tell old c.args.i c.args.p c.keeps.ensures.low c.keeps.ensures.high
    (λ img since. g.met.G.Rig.only_now old.rig img since) c.in_err-may_take.field-0.0 c.in_err-may_take.ensures.refused)

pub returns-then-lacks_frame-clause-served : goal.returns-then-lacks_frame-clause-served
returns-then-lacks_frame-clause-served g c =
    let old = c.args.c.now in
    let tell = telling g.G.Rig.seen g.G.Rig.leaves g.G.Rig.moment g.G.Rig.since g.G.Rig.faults in
    full-served tell old c.args.i c.args.p c.keeps.ensures.low c.keeps.ensures.high
    (λ img since. g.met.G.Rig.only_now old.rig img since) c.in_ok-may_take.ensures.may c.lacks_frame.ensures.pool
    c.lacks_frame.ensures.past (c.lacks_frame.ensures.full.0 c.if-lacks_frame.true)

pub take_copy-requires-clause-good : goal.take_copy-requires-clause-good
take_copy-requires-clause-good g c = (Pending.Idle, c.requires.fits.0.scene.state, c.requires.fits.1.good)

pub take_copy-requires-clause-frame : goal.take_copy-requires-clause-frame
take_copy-requires-clause-frame g c lacks = unlike c.if-lacks_frame.false (c.lacks_frame.ensures.full.1 lacks)

pub returns-in_err-take_copy-clause-served : goal.returns-in_err-take_copy-clause-served
returns-in_err-take_copy-clause-served g c =
    let old = c.args.c.now in
    let tell = telling g.G.Rig.seen g.G.Rig.leaves g.G.Rig.moment g.G.Rig.since g.G.Rig.faults in
    let p = err_from_is_err_and c.from_residual-in_err-take_copy.result c.from_residual-in_err-take_copy.ensures.1 in
    let took = c.take_copy.ensures in
    let lacks = c.in_err-take_copy.ensures in
    subst (λ (r : Result (Unit {0}) Refusal). Serving tell (Take c.args.i c.args.p) (did r) old c.take_copy.new.c)
    (sym (p.1 ∙ ap (λ (n : Refusal). Err n) p.2))
    (take-spared tell old c.args.i c.args.p c.keeps.ensures.low c.keeps.ensures.high
    (λ img since. g.met.G.Rig.only_now old.rig img since) c.take_copy.new.c took.rig lacks.stays took.good lacks.asks)

pub returns-clause-served : goal.returns-clause-served
returns-clause-served g c =
    let old = c.args.c.now in
    let tell = telling g.G.Rig.seen g.G.Rig.leaves g.G.Rig.moment g.G.Rig.since g.G.Rig.faults in
    let took = c.take_copy.ensures in
    let done = c.in_ok-take_copy.ensures in
    let fits = c.requires.fits in
    taken-served tell old c.args.i c.args.p c.keeps.ensures.low c.keeps.ensures.high
    (λ img since. g.met.G.Rig.only_now old.rig img since) c.in_ok-may_take.ensures.may c.lacks_frame.ensures.pool
    c.lacks_frame.ensures.past
    (c.keeps-2.ensures.formed c.args.p)
    (λ lacks. unlike c.if-lacks_frame.false (c.lacks_frame.ensures.full.1 lacks))
    c.take_copy.new.c took.rig took.good _ done.parts done.place fits.0 fits.1

pub may_take-requires : goal.may_take-requires
may_take-requires g c = c.requires.fits.1.good.shape

pub returns-in_err-may_take-clause-rig : goal.returns-in_err-may_take-clause-rig
returns-in_err-may_take-clause-rig g c = refl

pub lacks_frame-requires : goal.lacks_frame-requires
lacks_frame-requires g c = c.requires.fits.1.good.shape

pub returns-then-lacks_frame-clause-rig : goal.returns-then-lacks_frame-clause-rig
returns-then-lacks_frame-clause-rig g c = refl

pub take_copy-requires-clause-idle : goal.take_copy-requires-clause-idle
take_copy-requires-clause-idle g c = c.requires.fits.1.idle

pub take_copy-requires-clause-receiver : goal.take_copy-requires-clause-receiver
take_copy-requires-clause-receiver g c = c.in_ok-may_take.ensures.may.receiver

pub returns-in_err-take_copy-clause-rig : goal.returns-in_err-take_copy-clause-rig
returns-in_err-take_copy-clause-rig g c = c.take_copy.ensures.rig

pub returns-clause-rig : goal.returns-clause-rig
returns-clause-rig g c = c.take_copy.ensures.rig

-- ---- what no world has, and a recovery that is under way

pub returns-in_err-may_take-clause-untouched : goal.returns-in_err-may_take-clause-untouched
returns-in_err-may_take-clause-untouched g c =
    same-untouched (once_done c.from_residual.result (only c.args.i)) none_of (parts c.args.c.now) (parts c.args.c.now) refl

pub returns-in_err-may_take-clause-pool : goal.returns-in_err-may_take-clause-pool
returns-in_err-may_take-clause-pool g c =
    let p = err_from_is_err_and c.from_residual.result c.from_residual.ensures.1 in
    none-done c.from_residual.result p.0 _ p.1

pub returns-in_err-may_take-clause-rest : goal.returns-in_err-may_take-clause-rest
returns-in_err-may_take-clause-rest g c = rests-same (parts c.args.c.now)

pub returns-then-lacks_frame-clause-untouched : goal.returns-then-lacks_frame-clause-untouched
returns-then-lacks_frame-clause-untouched g c = same-untouched none_of none_of (parts c.args.c.now) (parts c.args.c.now) refl

pub returns-then-lacks_frame-clause-rest : goal.returns-then-lacks_frame-clause-rest
returns-then-lacks_frame-clause-rest g c = rests-same (parts c.args.c.now)

pub returns-in_err-take_copy-clause-untouched : goal.returns-in_err-take_copy-clause-untouched
returns-in_err-take_copy-clause-untouched g c =
    listed-untouched (once_done c.from_residual-in_err-take_copy.result (only c.args.i)) (parts c.args.c.now) (parts c.take_copy.new.c)
    c.in_err-take_copy.ensures.stays c.in_err-take_copy.ensures.asks.in_place.rec_lsns

pub returns-in_err-take_copy-clause-pool : goal.returns-in_err-take_copy-clause-pool
returns-in_err-take_copy-clause-pool g c =
    let p = err_from_is_err_and c.from_residual-in_err-take_copy.result c.from_residual-in_err-take_copy.ensures.1 in
    none-done c.from_residual-in_err-take_copy.result p.0 _ p.1

pub returns-in_err-take_copy-clause-rest : goal.returns-in_err-take_copy-clause-rest
returns-in_err-take_copy-clause-rest g c = asked-rest c.args.p _ (parts c.args.c.now) (parts c.take_copy.new.c)
    c.in_err-take_copy.ensures.stays c.in_err-take_copy.ensures.asks

pub returns-clause-untouched : goal.returns-clause-untouched
returns-clause-untouched g c =
    let old : Parts = parts c.args.c.now in
    let e = entry_at old.directory c.args.p in
    placed-untouched (only c.args.i) c.args.i _ old (parts c.take_copy.new.c)
    c.keeps.ensures.low (eq-eqb c.args.i c.args.i refl) c.in_ok-take_copy.ensures.parts
    (set-recs c.args.p (taken e) old.directory (parts c.take_copy.new.c).directory c.in_ok-take_copy.ensures.place
    (c.keeps-2.ensures.marked c.args.p) (changed-taken e))

pub returns-clause-pool : goal.returns-clause-pool
returns-clause-pool g c =
    let old : Parts = parts c.args.c.now in
    ap (λ (k : Parts). pool_at k c.args.i) c.in_ok-take_copy.ensures.parts
    ∙ item-set no_pool old.pools c.args.i _ c.keeps.ensures.low c.keeps.ensures.high c.requires.fits.1.good.shape.pools

pub returns-clause-rest : goal.returns-clause-rest
returns-clause-rest g c =
    let old : Parts = parts c.args.c.now in
    let e = entry_at old.directory c.args.p in
    pages-rest old (parts c.take_copy.new.c) (subst (OnlyPages old) (sym c.in_ok-take_copy.ensures.parts) refl)
    (moved-lost c.args.p (taken e) old.directory (parts c.take_copy.new.c).directory c.in_ok-take_copy.ensures.place
    (c.keeps-2.ensures.formed c.args.p)
    (IsMove.take (receiver-passes c.args.i e c.in_ok-may_take.ensures.may.receiver) refl))
