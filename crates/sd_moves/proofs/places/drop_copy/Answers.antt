use Rattle.std.proofs.Common.{◌≡◌, ℕ, ◌-◌, ◌≤◌, true, false, sym, ap, ◌∙◌, subst, arith, slice_set}
use Rattle.std.specs.Prelude.{None}
use Rattle.sd_pagelock.specs.Directory.{DirectoryState, entry_at}
use Rattle.sd_pagelock.specs.Moves.{IsMove}
use Rattle.sd_pagelock.specs.Places.{PageEntry, changed}
use Rattle.sd_pagelock.specs.Rows.{fallen}
use Rattle.sd_pagelock.proofs.Drops.{changed-fallen}
use Rattle.sd_page.specs.Page.{Page}
use Rattle.sd_pool.specs.Buffers as buffers
use Rattle.sd_pool.specs.Buffers.{Buffers, without_page}
use Rattle.sd_state.specs.Complexes.{parts, unboxed}
use Rattle.sd_state.specs.Good.{Good}
use Rattle.sd_state.specs.Locking.{IsSet, with_place}
use Rattle.sd_state.specs.Parts.{Parts, pool_at}
use Rattle.sd_state.proofs.Locks.{pool-lent}
use Rattle.sd_state.proofs.Unboxed.{image-unboxed}
use Rattle.sd_moves.proofs.Placed.{dropped-good}
use Rattle.sd_moves.proofs.places.drop_copy.Goals as goal

pub set-requires-clause-lawful : goal.set-requires-clause-lawful
set-requires-clause-lawful g c = IsMove.evict c.args.i c.requires.spare
    (c.fallen-left.ensures ∙ ap (λ (e : PageEntry). fallen c.args.i e) c.entry-place.ensures)

pub set-requires-clause-first : goal.set-requires-clause-first
set-requires-clause-first g c was is =
    let same : changed (entry_at c.args.c.now.directory c.args.p) ≡ true =
    sym (changed-fallen c.args.i (entry_at c.args.c.now.directory c.args.p))
    ∙ sym (ap changed (c.fallen-left.ensures ∙ ap (λ (e : PageEntry). fallen c.args.i e) c.entry-place.ensures)) ∙ is in
    let clash : false ≡ true = sym was ∙ same in absurd (cc)

pub returns-clause-moving : goal.returns-clause-moving
returns-clause-moving g c q = image-unboxed c.args.c.now.directory c.set.new.self q (c.set.ensures.images q)

pub returns-clause-parts : goal.returns-clause-parts
returns-clause-parts g c =
    let p : Parts = parts c.args.c.now in
    let i : ℕ = c.args.i in
    let low : 1 ≤ i = omega (arith, c.get.ensures.value, c.get.ensures.low) in
    let high : i ≤ 8 = omega (arith, c.get.ensures.value, c.get.ensures.high) in
    let place : c.get.result - 1 ≡ i - 1 = ap (λ n. n - 1) c.get.ensures.value in
    let lent : pool_at p i ≡ c.index_mut.result.now =
    pool-lent p i (c.get.result - 1) c.index_mut.result.now low high c.requires.good.2.shape.pools place
    c.index_mut.ensures.value in
    let is : c.take-copy.new.self ≡ without_page (pool_at p i) c.args.p =
    c.take-copy.ensures.rest ∙ ap (λ (b : Buffers). without_page b c.args.p) (sym lent) in
    let places : DirectoryState Page = unboxed c.set.new.self in
    ap (λ (n : ℕ). record p { pools = slice_set p.pools n c.take-copy.new.self; directory = places }) place
    ∙ ap (λ (b : Buffers). with_place i b places p) is

pub returns-clause-good : goal.returns-clause-good
returns-clause-good g c pend m good =
    let p : Parts = parts c.args.c.now in
    let i : ℕ = c.args.i in
    let seen = g.G.Rig.seen c.args.c.now.rig in
    let leaves = g.G.Rig.leaves c.args.c.now.rig in
    let low : 1 ≤ i = omega (arith, c.get.ensures.value, c.get.ensures.low) in
    let high : i ≤ 8 = omega (arith, c.get.ensures.value, c.get.ensures.high) in
    let place : c.get.result - 1 ≡ i - 1 = ap (λ n. n - 1) c.get.ensures.value in
    let lent : pool_at p i ≡ c.index_mut.result.now =
    pool-lent p i (c.get.result - 1) c.index_mut.result.now low high good.shape.pools place c.index_mut.ensures.value in
    let places : DirectoryState Page = unboxed c.set.new.self in
    let moves = c.set.ensures in
    let set : IsSet c.args.p (fallen i (entry_at p.directory c.args.p)) None p.directory places =
    subst (λ (e : PageEntry). IsSet c.args.p e None p.directory places)
    (c.fallen-left.ensures ∙ ap (λ (e : PageEntry). fallen i e) c.entry-place.ensures)
    (record {
      entry = moves.here;
      rec_lsn = moves.rec_lsn;
      asks = moves.asks;
      others = moves.others;
      other_rec_lsns = moves.other_rec_lsns;
      other_asks = moves.other_asks;
    }) in
    subst (λ (n : ℕ). Good seen leaves pend (record p { pools = slice_set p.pools n c.take-copy.new.self; directory = places }) m)
    (sym place)
    (dropped-good c.args.p i c.take-copy.new.self seen leaves pend p m low high good c.take-copy.ensures.gone
    (λ q ne. c.take-copy.ensures.others q ne ∙ ap (λ (b : Buffers). buffers.image_at b q) (sym lent)) places set
    (λ q. image-unboxed c.args.c.now.directory c.set.new.self q (moves.images q))
    c.requires.idle (c.keeps.ensures.formed c.args.p) c.requires.spare)
