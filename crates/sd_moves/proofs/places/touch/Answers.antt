use Rattle.std.proofs.Common.{◌≡◌, ℕ, ◌-◌, ◌≤◌, sym, ap, ◌∙◌, subst, arith, slice_set}
use Rattle.sd_pool.specs.Buffers as buffers
use Rattle.sd_pool.specs.Buffers.{Buffers}
use Rattle.sd_state.specs.Complexes.{parts}
use Rattle.sd_state.specs.Good.{Good}
use Rattle.sd_state.specs.Parts.{Parts, pool_at}
use Rattle.sd_state.proofs.Locks.{pool-lent}
use Rattle.sd_moves.proofs.Placed.{touched-good}
use Rattle.sd_moves.proofs.places.touch.Goals as goal

pub returns-clause-good : goal.returns-clause-good
returns-clause-good g c pend m good =
    let p : Parts = parts c.args.c.now in
    let i : ℕ = c.args.i in
    let seen = g.G.Rig.seen c.args.c.now.rig in
    let leaves = g.G.Rig.leaves c.args.c.now.rig in
    let low : 1 ≤ i = omega (arith, c.get.ensures.value, c.get.ensures.low) in
    let high : i ≤ 8 = omega (arith, c.get.ensures.value, c.get.ensures.high) in
    let place : c.get.result - 1 ≡ i - 1 = ap (λ n. n - 1) c.get.ensures.value in
    let lent : pool_at p i ≡ c.index_mut.result.now =
    pool-lent p i (c.get.result - 1) c.index_mut.result.now low high good.shape.pools place c.index_mut.ensures.value in
    subst (λ (n : ℕ). Good seen leaves pend (record p { pools = slice_set p.pools n c.touch.new.self }) m)
    (sym place)
    (touched-good i c.touch.new.self seen leaves pend p m low high good
    (λ q. c.touch.ensures.images q ∙ ap (λ (b : Buffers). buffers.image_at b q) (sym lent)))
