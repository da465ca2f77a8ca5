use Rattle.std.proofs.Common.{◌≡◌, ◌∙◌, ap, eq-eqb, refl, subst, sym}
use Rattle.std.specs.Prelude.{Result, Err, OnErr}
use Rattle.std.proofs.lemmas.Result.{err_from_is_err_and}
use Rattle.sd_base.specs.declared.refusal.Refusal.{Refusal}
use Rattle.sd_base.specs.declared.refusal.Refusal.TheVariants as R
use Rattle.sd_fits.proofs.Resting.{rests-same}
use Rattle.sd_fits.specs.Serving.{Serving}
use Rattle.sd_fits.specs.Untouched.{none_of, only}
use Rattle.sd_model.specs.declared.event.Event.TheVariants.{Evict}
use Rattle.sd_pagelock.specs.Directory.{entry_at}
use Rattle.sd_pagelock.specs.Moves.{IsMove}
use Rattle.sd_pagelock.specs.Rows.{fallen}
use Rattle.sd_pagelock.proofs.Drops.{changed-fallen}
use Rattle.sd_pool.specs.Buffers.{without_page}
use Rattle.sd_state.specs.Complexes.{parts}
use Rattle.sd_state.specs.Parts.{Parts, no_pool, pool_at}
use Rattle.sd_state.proofs.Items.{item-set}
use Rattle.sd_state.specs.Values.{Pending}
use Rattle.sd_transfer.specs.Evicting.{StaysFor}
use Rattle.sd_world.specs.Serving.{did, telling}
use Rattle.sd_transfer.proofs.Evicted.{evict-refused, evicted}
use Rattle.sd_transfer.specs.Paging.{OnlyPages}
use Rattle.sd_transfer.specs.Touching.{once_done}
use Rattle.sd_transfer.proofs.Rested.{moved-lost, pages-rest}
use Rattle.sd_transfer.proofs.Touched.{none-done, placed-untouched, same-untouched, set-recs}
use Rattle.sd_transfer.proofs.Told.{err-same, not-refused}
use Rattle.sd_transfer.proofs.evicting.evict.Goals as goal

pub returns-in_err-may_go-clause-served : goal.returns-in_err-may_go-clause-served
returns-in_err-may_go-clause-served g c =
    let old = c.args.c.now in
    let tell = telling g.G.Rig.seen g.G.Rig.leaves g.G.Rig.moment g.G.Rig.since g.G.Rig.faults in
    let p = err_from_is_err_and c.from_residual.result c.from_residual.ensures.1 in
    subst (λ (r : Result (Unit {0}) Refusal). Serving tell (Evict c.args.i c.args.p) (did r) old old)
    (sym (p.1 ∙ ap (λ (n : Refusal). Err n) p.2))
    (evict-refused tell old c.args.i c.args.p c.keeps.ensures.low c.keeps.ensures.high
    (λ img since. g.met.G.Rig.only_now old.rig img since) c.in_err-may_go.field-0.0 c.in_err-may_go.ensures.refused)

pub returns-clause-served : goal.returns-clause-served
returns-clause-served g c =
    let old = c.args.c.now in
    let tell = telling g.G.Rig.seen g.G.Rig.leaves g.G.Rig.moment g.G.Rig.since g.G.Rig.faults in
    let drop = c.drop_copy.ensures in
    evicted tell old c.args.i c.args.p c.keeps.ensures.low c.keeps.ensures.high
    (λ img since. g.met.G.Rig.only_now old.rig img since) c.drop_copy.new.c drop.rig drop.parts drop.place drop.good
    c.in_ok-may_go.ensures.active c.in_ok-may_go.ensures.spare

pub may_go-requires : goal.may_go-requires
may_go-requires g c = c.requires.fits.1.good.shape

pub returns-in_err-may_go-clause-there : goal.returns-in_err-may_go-clause-there
returns-in_err-may_go-clause-there g c is =
    let p = err_from_is_err_and c.from_residual.result c.from_residual.ensures.1 in
    subst (StaysFor (parts c.args.c.now) c.args.i c.args.p) (sym p.2 ∙ err-same c.from_residual.result p.0 R.Memory p.1 is)
    c.in_err-may_go.ensures.refused

pub returns-in_err-may_go-clause-rig : goal.returns-in_err-may_go-clause-rig
returns-in_err-may_go-clause-rig g c = refl

pub drop_copy-requires-clause-good : goal.drop_copy-requires-clause-good
drop_copy-requires-clause-good g c = (Pending.Idle, c.requires.fits.0.scene.state, c.requires.fits.1.good)

pub drop_copy-requires-clause-idle : goal.drop_copy-requires-clause-idle
drop_copy-requires-clause-idle g c = c.requires.fits.1.idle

pub drop_copy-requires-clause-spare : goal.drop_copy-requires-clause-spare
drop_copy-requires-clause-spare g c = c.in_ok-may_go.ensures.spare

pub returns-clause-there : goal.returns-clause-there
returns-clause-there g c is = not-refused tt R.Memory is

pub returns-clause-rig : goal.returns-clause-rig
returns-clause-rig g c = c.drop_copy.ensures.rig

-- ---- what no world has, and a recovery that is under way

pub returns-in_err-may_go-clause-refused : goal.returns-in_err-may_go-clause-refused
returns-in_err-may_go-clause-refused g c =
    let old : Parts = parts c.args.c.now in
    subst (λ (r : Result (Unit {0}) Refusal). OnErr r (old ≡ old))
    (sym (err_from_is_err_and c.from_residual.result c.from_residual.ensures.1).1) refl

pub returns-in_err-may_go-clause-untouched : goal.returns-in_err-may_go-clause-untouched
returns-in_err-may_go-clause-untouched g c =
    same-untouched (once_done c.from_residual.result (only c.args.i)) none_of (parts c.args.c.now) (parts c.args.c.now) refl

pub returns-in_err-may_go-clause-pool : goal.returns-in_err-may_go-clause-pool
returns-in_err-may_go-clause-pool g c =
    let p = err_from_is_err_and c.from_residual.result c.from_residual.ensures.1 in
    none-done c.from_residual.result p.0 _ p.1

pub returns-in_err-may_go-clause-rest : goal.returns-in_err-may_go-clause-rest
returns-in_err-may_go-clause-rest g c = rests-same (parts c.args.c.now)

pub returns-clause-untouched : goal.returns-clause-untouched
returns-clause-untouched g c =
    let old : Parts = parts c.args.c.now in
    let e = entry_at old.directory c.args.p in
    placed-untouched (only c.args.i) c.args.i (without_page (pool_at old c.args.i) c.args.p) old (parts c.drop_copy.new.c)
    c.keeps.ensures.low (eq-eqb c.args.i c.args.i refl) c.drop_copy.ensures.parts
    (set-recs c.args.p (fallen c.args.i e) old.directory (parts c.drop_copy.new.c).directory c.drop_copy.ensures.place
    (c.keeps-2.ensures.marked c.args.p) (changed-fallen c.args.i e))

pub returns-clause-pool : goal.returns-clause-pool
returns-clause-pool g c =
    let old : Parts = parts c.args.c.now in
    ap (λ (k : Parts). pool_at k c.args.i) c.drop_copy.ensures.parts
    ∙ item-set no_pool old.pools c.args.i (without_page (pool_at old c.args.i) c.args.p) c.keeps.ensures.low c.keeps.ensures.high
    c.requires.fits.1.good.shape.pools

pub returns-clause-rest : goal.returns-clause-rest
returns-clause-rest g c =
    let old : Parts = parts c.args.c.now in
    pages-rest old (parts c.drop_copy.new.c) (subst (OnlyPages old) (sym c.drop_copy.ensures.parts) refl)
    (moved-lost c.args.p (fallen c.args.i (entry_at old.directory c.args.p)) old.directory (parts c.drop_copy.new.c).directory
    c.drop_copy.ensures.place (c.keeps-2.ensures.formed c.args.p) (IsMove.evict c.args.i c.in_ok-may_go.ensures.spare refl))
