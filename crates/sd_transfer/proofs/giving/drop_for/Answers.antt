use Rattle.std.proofs.Common.{◌∙◌, eq-eqb, inr, refl, ap, subst, sym}
use Rattle.sd_pagelock.specs.Directory.{entry_at}
use Rattle.sd_pagelock.specs.Moves.{IsMove}
use Rattle.sd_pagelock.specs.Rows.{fallen, may_raise, raised}
use Rattle.sd_pagelock.proofs.Drops.{changed-fallen}
use Rattle.sd_pagelock.proofs.Losses.{changed-raised}
use Rattle.sd_pagelock.proofs.Rowwise.{drop_evicts}
use Rattle.sd_pool.specs.Buffers.{without_page}
use Rattle.sd_state.specs.Complexes.{parts}
use Rattle.sd_state.specs.Parts.{Parts, pool_at}
use Rattle.sd_moves.specs.Places.{with_directory}
use Rattle.sd_fits.proofs.Places.{frames-kept}
use Rattle.sd_fits.proofs.Resting.{rests-then}
use Rattle.sd_fits.specs.Untouched.{none_of, only}
use Rattle.sd_transfer.specs.Paging.{OnlyPages}
use Rattle.sd_transfer.proofs.Dropped.{dropped-so, raised-so}
use Rattle.sd_transfer.proofs.Rested.{moved-lost, pages-rest}
use Rattle.sd_transfer.proofs.Touched.{listed-untouched, placed-untouched, set-recs, untouched-then}
use Rattle.sd_transfer.proofs.giving.drop_for.Goals as goal

pub returns-then-not-may_raise-clause-place : goal.returns-then-not-may_raise-clause-place
returns-then-not-may_raise-clause-place g c = dropped-so c.args.p c.args.j c.args.to (parts c.args.c.now).directory
    (parts c.drop_copy.new.c).directory c.drop_copy.ensures.place
    (ap (may_raise c.args.to) (sym c.entry.ensures) ∙ sym c.may_raise.ensures ∙ c.if-not-may_raise.true)

pub returns-clause-place : goal.returns-clause-place
returns-clause-place g c = raised-so c.args.p c.args.j c.args.to (parts c.args.c.now).directory
    (parts c.drop_copy.new.c).directory c.drop_copy.ensures.place (parts c.raise.new.c).directory
    (ap (may_raise c.args.to) (sym c.entry.ensures) ∙ sym c.may_raise.ensures ∙ c.if-not-may_raise.false) c.raise.ensures.place

pub returns-clause-frames : goal.returns-clause-frames
returns-clause-frames g c k =
    let old : Parts = parts c.args.c.now in
    ap (λ (x : Parts). (pool_at x k).frames) (c.raise.ensures.parts)
    ∙ ap (λ (x : Parts). (pool_at x k).frames) (c.drop_copy.ensures.parts)
    ∙ frames-kept old c.args.j (without_page (pool_at old c.args.j) c.args.p) (parts c.drop_copy.new.c).directory
    c.keeps.ensures.low c.keeps.ensures.high c.requires.good.2.shape.pools refl k

pub drop_copy-requires-clause-good : goal.drop_copy-requires-clause-good
drop_copy-requires-clause-good g c = c.requires.good

pub drop_copy-requires-clause-idle : goal.drop_copy-requires-clause-idle
drop_copy-requires-clause-idle g c = c.requires.idle

pub drop_copy-requires-clause-spare : goal.drop_copy-requires-clause-spare
drop_copy-requires-clause-spare g c = drop_evicts c.args.j (entry_at (parts c.args.c.now).directory c.args.p) c.requires.spare

pub raise-requires-clause-good : goal.raise-requires-clause-good
raise-requires-clause-good g c =
    let good = c.requires.good in
    (good.0, good.1, c.drop_copy.ensures.good good.0 good.1 good.2)

pub raise-requires-clause-idle : goal.raise-requires-clause-idle
raise-requires-clause-idle g c = ap (λ (x : Parts). x.due) c.drop_copy.ensures.parts ∙ c.requires.idle

pub returns-then-not-may_raise-clause-pages : goal.returns-then-not-may_raise-clause-pages
returns-then-not-may_raise-clause-pages g c = subst (OnlyPages (parts c.args.c.now)) (sym c.drop_copy.ensures.parts) refl

pub returns-then-not-may_raise-clause-frames : goal.returns-then-not-may_raise-clause-frames
returns-then-not-may_raise-clause-frames g c k =
    let old : Parts = parts c.args.c.now in
    ap (λ (x : Parts). (pool_at x k).frames) c.drop_copy.ensures.parts
    ∙ frames-kept old c.args.j (without_page (pool_at old c.args.j) c.args.p) (parts c.drop_copy.new.c).directory
    c.keeps.ensures.low c.keeps.ensures.high c.requires.good.2.shape.pools refl k

pub returns-clause-good : goal.returns-clause-good
returns-clause-good g c pend m good = c.raise.ensures.good pend m (c.drop_copy.ensures.good pend m good)

pub returns-clause-pages : goal.returns-clause-pages
returns-clause-pages g c = subst (OnlyPages (parts c.args.c.now))
    (sym (c.raise.ensures.parts ∙ ap (with_directory (parts c.raise.new.c).directory) c.drop_copy.ensures.parts)) refl

pub returns-then-not-may_raise-clause-good : goal.returns-then-not-may_raise-clause-good
returns-then-not-may_raise-clause-good g c = c.drop_copy.ensures.good

pub returns-then-not-may_raise-clause-rig : goal.returns-then-not-may_raise-clause-rig
returns-then-not-may_raise-clause-rig g c = c.drop_copy.ensures.rig

pub returns-clause-rig : goal.returns-clause-rig
returns-clause-rig g c = c.raise.ensures.rig ∙ c.drop_copy.ensures.rig

pub returns-then-not-may_raise-clause-pools : goal.returns-then-not-may_raise-clause-pools
returns-then-not-may_raise-clause-pools g c = inr (ap (λ (x : Parts). x.pools) c.drop_copy.ensures.parts)

pub returns-clause-pools : goal.returns-clause-pools
returns-clause-pools g c = inr (ap (λ (x : Parts). x.pools) c.raise.ensures.parts ∙ ap (λ (x : Parts). x.pools) c.drop_copy.ensures.parts)

pub returns-then-not-may_raise-clause-untouched : goal.returns-then-not-may_raise-clause-untouched
returns-then-not-may_raise-clause-untouched g c =
    let old : Parts = parts c.args.c.now in
    let e = entry_at old.directory c.args.p in
    placed-untouched (only c.args.j) c.args.j (without_page (pool_at old c.args.j) c.args.p) old (parts c.drop_copy.new.c)
    c.keeps.ensures.low (eq-eqb c.args.j c.args.j refl) c.drop_copy.ensures.parts
    (set-recs c.args.p (fallen c.args.j e) old.directory (parts c.drop_copy.new.c).directory c.drop_copy.ensures.place
    (c.keeps-2.ensures.marked c.args.p) (changed-fallen c.args.j e))

pub returns-then-not-may_raise-clause-rest : goal.returns-then-not-may_raise-clause-rest
returns-then-not-may_raise-clause-rest g c =
    let old : Parts = parts c.args.c.now in
    pages-rest old (parts c.drop_copy.new.c) (subst (OnlyPages old) (sym c.drop_copy.ensures.parts) refl)
    (moved-lost c.args.p (fallen c.args.j (entry_at old.directory c.args.p)) old.directory (parts c.drop_copy.new.c).directory
    c.drop_copy.ensures.place (c.keeps-2.ensures.formed c.args.p) (IsMove.drop c.args.j c.requires.spare refl))

pub returns-clause-untouched : goal.returns-clause-untouched
returns-clause-untouched g c =
    let old : Parts = parts c.args.c.now in
    let mid : Parts = parts c.drop_copy.new.c in
    let e = entry_at old.directory c.args.p in
    untouched-then (only c.args.j) none_of old mid (parts c.raise.new.c)
    (placed-untouched (only c.args.j) c.args.j (without_page (pool_at old c.args.j) c.args.p) old mid
    c.keeps.ensures.low (eq-eqb c.args.j c.args.j refl) c.drop_copy.ensures.parts
    (set-recs c.args.p (fallen c.args.j e) old.directory mid.directory c.drop_copy.ensures.place
    (c.keeps-2.ensures.marked c.args.p) (changed-fallen c.args.j e)))
    (listed-untouched (only c.args.j) mid (parts c.raise.new.c) c.raise.ensures.parts
    (set-recs c.args.p (raised c.args.to (entry_at mid.directory c.args.p)) mid.directory (parts c.raise.new.c).directory
    c.raise.ensures.place (c.keeps-3.ensures.marked c.args.p) (changed-raised c.args.to (entry_at mid.directory c.args.p))))

pub returns-clause-rest : goal.returns-clause-rest
returns-clause-rest g c =
    let old : Parts = parts c.args.c.now in
    let mid : Parts = parts c.drop_copy.new.c in
    rests-then old mid (parts c.raise.new.c)
    (pages-rest old mid (subst (OnlyPages old) (sym c.drop_copy.ensures.parts) refl)
    (moved-lost c.args.p (fallen c.args.j (entry_at old.directory c.args.p)) old.directory mid.directory
    c.drop_copy.ensures.place (c.keeps-2.ensures.formed c.args.p) (IsMove.drop c.args.j c.requires.spare refl)))
    (pages-rest mid (parts c.raise.new.c) (subst (OnlyPages mid) (sym c.raise.ensures.parts) refl)
    (moved-lost c.args.p (raised c.args.to (entry_at mid.directory c.args.p)) mid.directory (parts c.raise.new.c).directory
    c.raise.ensures.place (c.keeps-3.ensures.formed c.args.p)
    (IsMove.raise c.args.to
    (ap (may_raise c.args.to) (sym c.entry.ensures) ∙ sym c.may_raise.ensures ∙ c.if-not-may_raise.false) refl)))
