use Rattle.std.proofs.Common.{◌≡◌, ℕ, ◌-◌, ◌≤◌, get_or, map, sym, ap, ap₂, ◌∙◌, arith}
use Rattle.std.specs.Prelude.{Option, None, option_map, slice_set}
use Rattle.std.proofs.lemmas.List.{map-set}
use Rattle.sd_pool.specs.Buffers.{Buffers}
use Rattle.sd_state.specs.Complexes.{begun_of, parts, unboxed}
use Rattle.sd_state.specs.declared.complex.Checkpoint.{Checkpoint}
use Rattle.sd_state.specs.Parts.{Begun, IsShape, Parts, no_pool, pool_at}
use Rattle.sd_state.proofs.Items.{item-is}
use Rattle.sd_moves.specs.Falling.{HaveFallen, emptied_pool}
use Rattle.sd_moves.proofs.FallLeft.{HasFallen, left-fallen, left-parts, moving-unboxed}
use Rattle.sd_moves.proofs.FallSteps.{fallen-shape}
use Rattle.sd_moves.proofs.crash.leave.Goals as goal

pub returns-clause-parts : goal.returns-clause-parts
returns-clause-parts g c =
    let i : ℕ = c.args.i in
    let low : 1 ≤ i = omega (arith, c.get.ensures.value, c.get.ensures.low) in
    let high : i ≤ 8 = omega (arith, c.get.ensures.value, c.get.ensures.high) in
    let place : c.get.result - 1 ≡ i - 1 = ap (λ (n : ℕ). n - 1) c.get.ensures.value in
    let none : Option Checkpoint = None in
    let old : Parts = parts c.args.c.now in
    let mid : Parts = parts c.fall_with.new.c in
    let h : HaveFallen i 8 old mid = c.fall_with.ensures.fallen in
    let shape : IsShape mid = fallen-shape i 8 old mid c.requires.shape h in
    let lent : Buffers = c.index_mut.result.now in
    let is : pool_at mid i ≡ lent = item-is no_pool mid.pools i lent low high shape.pools
    (c.index_mut.ensures.value ∙ ap (λ (n : ℕ). get_or mid.pools n lent) place) in
    left-parts i old mid (slice_set mid.pools (c.get.result - 1) c.clear.new.self)
    (map (option_map begun_of) (slice_set c.fall_with.new.c.checks.items (c.get.result - 1) none))
    (unboxed c.fall.new.self) c.retain.new.self h.same
    (ap₂ (λ (n : ℕ) (pool : Buffers). slice_set mid.pools n pool) place (c.clear.ensures ∙ ap emptied_pool (sym is)))
    (map-set (option_map begun_of) c.fall_with.new.c.checks.items (c.get.result - 1) none
    ∙ ap (λ (n : ℕ). slice_set {A = Option Begun} mid.checks n None) place)

pub returns-clause-left : goal.returns-clause-left
returns-clause-left g c =
    let i : ℕ = c.args.i in
    let low : 1 ≤ i = omega (arith, c.get.ensures.value, c.get.ensures.low) in
    let high : i ≤ 8 = omega (arith, c.get.ensures.value, c.get.ensures.high) in
    let none : Option Checkpoint = None in
    let old : Parts = parts c.args.c.now in
    let mid : Parts = parts c.fall_with.new.c in
    let h : HaveFallen i 8 old mid = c.fall_with.ensures.fallen in
    let gone : HasFallen i mid.directory (unboxed c.fall.new.self) = record {
      entries = c.fall.ensures.places;
      rec_lsns = c.fall.ensures.rec_lsns;
      asks = c.fall.ensures.asks;
      moving = λ p. moving-unboxed i c.fall_with.new.c.directory c.fall.new.self p (c.fall.ensures.images p);
    } in
    left-fallen i old mid (slice_set mid.pools (c.get.result - 1) c.clear.new.self)
    (map (option_map begun_of) (slice_set c.fall_with.new.c.checks.items (c.get.result - 1) none))
    (unboxed c.fall.new.self) c.retain.new.self low high c.requires.shape h gone c.retain.ensures.locks c.retain.ensures.waits
