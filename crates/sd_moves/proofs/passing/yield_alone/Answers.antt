use Rattle.std.proofs.Common.{◌≡◌, ℕ, ◌-◌, ◌≤◌, sym, ap, ◌∙◌, subst, arith, slice_set}
use Rattle.std.specs.Box.{box_value}
use Rattle.std.specs.Prelude.{None, option_map}
use Rattle.sd_base.specs.declared.place.Mode.TheVariants as modes
use Rattle.sd_page.specs.Page.{Page}
use Rattle.sd_pagelock.specs.Directory.{DirectoryState, entry_at}
use Rattle.sd_pagelock.specs.Moves.{IsMove}
use Rattle.sd_pagelock.specs.Places.{PageEntry}
use Rattle.sd_pagelock.specs.Rows.{given_excl, may_yield}
use Rattle.sd_pool.specs.Buffers as buffers
use Rattle.sd_pool.specs.Buffers.{Buffers, without_page}
use Rattle.sd_state.specs.Complexes.{parts, unboxed}
use Rattle.sd_state.specs.Good.{Good}
use Rattle.sd_state.specs.Locking.{IsSet, with_place}
use Rattle.sd_state.specs.Parts.{Parts, pool_at}
use Rattle.sd_state.proofs.Locks.{pool-lent}
use Rattle.sd_moves.specs.Passing.{IsOnWay}
use Rattle.sd_moves.proofs.Copies.{pooled-box, way-unboxed}
use Rattle.sd_moves.proofs.Passed.{set-from, yielded-good}
use Rattle.sd_moves.proofs.passing.yield_alone.Goals as goal

pub unwrap-only-requires : goal.unwrap-only-requires
unwrap-only-requires g c =
    let rig = c.args.c.now.rig in
    let good = c.requires.good in
    pooled-box (g.G.Rig.seen rig) (g.G.Rig.leaves rig) good.0 c.args.p (parts c.args.c.now) good.1 good.2 c.args.from
    (c.get.result - 1) (omega (arith, c.get.ensures.value, c.get.ensures.low))
    (omega (arith, c.get.ensures.value, c.get.ensures.high)) (ap (λ (n : ℕ). n - 1) c.get.ensures.value)
    c.index_mut.result.now c.index_mut.ensures.value c.requires.held c.take.result c.take.ensures.value

pub set-requires-clause-lawful : goal.set-requires-clause-lawful
set-requires-clause-lawful g c =
    let same = c.send.ensures.places c.args.p in
    IsMove.yield c.args.to (ap (may_yield c.args.to) same ∙ c.requires.row)
    (c.given_excl-moving.ensures ∙ ap (given_excl c.args.to) (c.entry-place.ensures ∙ sym same))

pub returns-clause-moving : goal.returns-clause-moving
returns-clause-moving g c =
    let p : Parts = parts c.args.c.now in
    let i : ℕ = c.args.from in
    let low : 1 ≤ i = omega (arith, c.get.ensures.value, c.get.ensures.low) in
    let high : i ≤ 8 = omega (arith, c.get.ensures.value, c.get.ensures.high) in
    let place : c.get.result - 1 ≡ i - 1 = ap (λ n. n - 1) c.get.ensures.value in
    let lent : pool_at p i ≡ c.index_mut.result.now =
    pool-lent p i (c.get.result - 1) c.index_mut.result.now low high c.requires.good.2.shape.pools place
    c.index_mut.ensures.value in
    way-unboxed c.args.p (buffers.image_at (pool_at p i) c.args.p) c.args.c.now.directory c.set.new.self
    (ap (option_map box_value) (c.set.ensures.images c.args.p ∙ c.send.ensures.here ∙ sym c.unwrap-only.ensures)
    ∙ c.take.ensures.value ∙ ap (λ (b : Buffers). buffers.image_at b c.args.p) (sym lent))
    (λ q ne. c.set.ensures.images q ∙ c.send.ensures.others q ne)

pub returns-clause-parts : goal.returns-clause-parts
returns-clause-parts g c =
    let p : Parts = parts c.args.c.now in
    let i : ℕ = c.args.from in
    let low : 1 ≤ i = omega (arith, c.get.ensures.value, c.get.ensures.low) in
    let high : i ≤ 8 = omega (arith, c.get.ensures.value, c.get.ensures.high) in
    let place : c.get.result - 1 ≡ i - 1 = ap (λ n. n - 1) c.get.ensures.value in
    let lent : pool_at p i ≡ c.index_mut.result.now =
    pool-lent p i (c.get.result - 1) c.index_mut.result.now low high c.requires.good.2.shape.pools place
    c.index_mut.ensures.value in
    let is : c.take.new.self ≡ without_page (pool_at p i) c.args.p =
    c.take.ensures.rest ∙ ap (λ (b : Buffers). without_page b c.args.p) (sym lent) in
    let places : DirectoryState Page = unboxed c.set.new.self in
    ap (λ (n : ℕ). record p { pools = slice_set p.pools n c.take.new.self; directory = places }) place
    ∙ ap (λ (b : Buffers). with_place i b places p) is

pub returns-clause-good : goal.returns-clause-good
returns-clause-good g c pend m good =
    let p : Parts = parts c.args.c.now in
    let i : ℕ = c.args.from in
    let seen = g.G.Rig.seen c.args.c.now.rig in
    let leaves = g.G.Rig.leaves c.args.c.now.rig in
    let low : 1 ≤ i = omega (arith, c.get.ensures.value, c.get.ensures.low) in
    let high : i ≤ 8 = omega (arith, c.get.ensures.value, c.get.ensures.high) in
    let place : c.get.result - 1 ≡ i - 1 = ap (λ n. n - 1) c.get.ensures.value in
    let lent : pool_at p i ≡ c.index_mut.result.now =
    pool-lent p i (c.get.result - 1) c.index_mut.result.now low high good.shape.pools place c.index_mut.ensures.value in
    let places : DirectoryState Page = unboxed c.set.new.self in
    let moves = c.set.ensures in
    let send = c.send.ensures in
    let set : IsSet c.args.p (given_excl c.args.to (entry_at p.directory c.args.p)) None p.directory places =
    subst (λ (e : PageEntry). IsSet c.args.p e None p.directory places)
    (c.given_excl-moving.ensures ∙ ap (given_excl c.args.to) c.entry-place.ensures)
    (set-from c.args.p _ None p.directory (unboxed c.send.new.self) places send.places send.rec_lsns send.asks
    (record {
      entry = moves.here;
      rec_lsn = moves.rec_lsn;
      asks = moves.asks;
      others = moves.others;
      other_rec_lsns = moves.other_rec_lsns;
      other_asks = moves.other_asks;
    })) in
    let way : IsOnWay c.args.p (buffers.image_at (pool_at p i) c.args.p) p.directory places =
    way-unboxed c.args.p (buffers.image_at (pool_at p i) c.args.p) c.args.c.now.directory c.set.new.self
    (ap (option_map box_value) (moves.images c.args.p ∙ send.here ∙ sym c.unwrap-only.ensures)
    ∙ c.take.ensures.value ∙ ap (λ (b : Buffers). buffers.image_at b c.args.p) (sym lent))
    (λ q ne. moves.images q ∙ send.others q ne) in
    subst (λ (n : ℕ). Good seen leaves pend (record p { pools = slice_set p.pools n c.take.new.self; directory = places }) m)
    (sym place)
    (yielded-good c.args.p i c.args.to modes.Excl seen leaves pend p m good c.requires.idle c.requires.held c.requires.asked
    c.requires.forced places way c.take.new.self low high c.take.ensures.gone
    (λ q ne. c.take.ensures.others q ne ∙ ap (λ (b : Buffers). buffers.image_at b q) (sym lent)) c.requires.row set)
