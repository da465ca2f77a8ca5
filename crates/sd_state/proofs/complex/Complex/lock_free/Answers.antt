use Rattle.std.proofs.Common.{◌≡◌, ℕ, ◌-◌, ◌≤◌, List, refl, ap, sym, ◌∙◌, subst, arith, slice_set}
use Rattle.std.specs.Prelude.{None}
use Rattle.sd_pagelock.specs.Moves.{IsMove}
use Rattle.sd_pagelock.specs.Places.{PageEntry, is_free}
use Rattle.sd_pagelock.specs.Rows.{locked}
use Rattle.sd_pagelock.specs.Directory.{DirectoryState}
use Rattle.sd_page.specs.Page.{Page}
use Rattle.sd_pool.specs.Buffers.{Buffers, with_page}
use Rattle.sd_pool.specs.Buffers as buffers
use Rattle.sd_state.specs.Complexes.{parts, unboxed}
use Rattle.sd_state.specs.Good.{Good}
use Rattle.sd_state.specs.Locking.{IsSet, with_place}
use Rattle.sd_state.specs.Parts.{Parts, pool_at}
use Rattle.sd_state.proofs.Answered.{same-set}
use Rattle.sd_state.proofs.Locks.{locked-good, pool-lent}
use Rattle.sd_state.proofs.Unboxed.{image-unboxed}
use Rattle.sd_state.proofs.complex.Complex.lock_free.Goals as goal

pub set-requires-clause-lawful : goal.set-requires-clause-lawful
set-requires-clause-lawful g c = IsMove.lock c.args.i c.args.mode (ap is_free c.requires.free) c.locked.ensures

pub returns-clause-moving : goal.returns-clause-moving
returns-clause-moving g c q = image-unboxed c.args.self.now.directory c.set.new.self q (c.set.ensures.images q)

pub returns-clause-parts : goal.returns-clause-parts
returns-clause-parts g c =
    let p : Parts = parts c.args.self.now in
    let i : ℕ = c.args.i in
    let low : 1 ≤ i = omega (arith, c.get.ensures.value, c.get.ensures.low) in
    let high : i ≤ 8 = omega (arith, c.get.ensures.value, c.get.ensures.high) in
    let place : c.get.result - 1 ≡ i - 1 = ap (λ n. n - 1) c.get.ensures.value in
    let lent : pool_at p i ≡ c.index_mut.result.now =
    pool-lent p i (c.get.result - 1) c.index_mut.result.now low high c.requires.good.2.shape.pools place
    c.index_mut.ensures.value in
    let is : c.put.new.self ≡ with_page (pool_at p i) c.args.p c.args.image.value =
    c.in-Ok.ensures.ok ∙ ap (λ (b : Buffers). with_page b c.args.p c.args.image.value) (sym lent) in
    let places : DirectoryState Page = unboxed c.set.new.self in
    ap (λ (n : ℕ). record p { pools = slice_set p.pools n c.put.new.self; directory = places }) place
    ∙ ap (λ (b : Buffers). with_place i b places p) is

pub returns-clause-good : goal.returns-clause-good
returns-clause-good g c pend m good =
    let p : Parts = parts c.args.self.now in
    let i : ℕ = c.args.i in
    let seen = g.G.Rig.seen c.args.self.now.rig in
    let leaves = g.G.Rig.leaves c.args.self.now.rig in
    let low : 1 ≤ i = omega (arith, c.get.ensures.value, c.get.ensures.low) in
    let high : i ≤ 8 = omega (arith, c.get.ensures.value, c.get.ensures.high) in
    let place : c.get.result - 1 ≡ i - 1 = ap (λ n. n - 1) c.get.ensures.value in
    let lent : pool_at p i ≡ c.index_mut.result.now =
    pool-lent p i (c.get.result - 1) c.index_mut.result.now low high good.shape.pools place c.index_mut.ensures.value in
    let places : DirectoryState Page = unboxed c.set.new.self in
    let moves = c.set.ensures in
    let to : PageEntry = locked i c.args.mode in
    let set : IsSet c.args.p to None p.directory places =
    subst (λ (e : PageEntry). IsSet c.args.p e None p.directory places) c.locked.ensures
    (record {
      entry = moves.here;
      rec_lsn = moves.rec_lsn;
      asks = moves.asks;
      others = moves.others;
      other_rec_lsns = moves.other_rec_lsns;
      other_asks = moves.other_asks;
    }) in
    subst (λ (n : ℕ). Good seen leaves pend (record p { pools = slice_set p.pools n c.put.new.self; directory = places }) m)
    (sym place)
    (locked-good c.args.p i c.args.mode c.args.image.value c.put.new.self places seen leaves pend p m low high good
    c.in-Ok.ensures.there (λ q ne. c.put.ensures.others q ne ∙ ap (λ (b : Buffers). buffers.image_at b q) (sym lent)) set
    (λ q. image-unboxed c.args.self.now.directory c.set.new.self q (moves.images q))
    c.requires.idle c.requires.free c.requires.active c.requires.newest)

pub returns-clause-place : goal.returns-clause-place
returns-clause-place g c =
    let moves = c.set.ensures in
    let old : DirectoryState Page = (parts c.args.self.now).directory in
    subst (λ (e : PageEntry). IsSet c.args.p e None old (unboxed c.set.new.self)) c.locked.ensures
    (record {
      entry = moves.here;
      rec_lsn = moves.rec_lsn;
      asks = moves.asks;
      others = moves.others;
      other_rec_lsns = moves.other_rec_lsns;
      other_asks = moves.other_asks;
    })

-- ---- there was no memory: the pool is as it was

pub returns-in-Err-clause-good : goal.returns-in-Err-clause-good
returns-in-Err-clause-good g c pend m good =
    let p : Parts = parts c.args.self.now in
    let rig = c.args.self.now.rig in
    subst (λ (x : Parts). Good (g.G.Rig.seen rig) (g.G.Rig.leaves rig) pend x m)
    (sym (ap (λ (pools : List Buffers). record p { pools = pools })
    (same-set p.pools (c.get.result - 1) c.index_mut.result.now c.put.new.self c.index_mut.ensures.value c.in-Err.ensures.stays))) good

pub returns-in-Err-clause-stays : goal.returns-in-Err-clause-stays
returns-in-Err-clause-stays g c =
    let p : Parts = parts c.args.self.now in
    ap (λ (pools : List Buffers). record p { pools = pools })
    (same-set p.pools (c.get.result - 1) c.index_mut.result.now c.put.new.self c.index_mut.ensures.value c.in-Err.ensures.stays)

pub returns-in-Err-clause-moving : goal.returns-in-Err-clause-moving
returns-in-Err-clause-moving g c q = refl
