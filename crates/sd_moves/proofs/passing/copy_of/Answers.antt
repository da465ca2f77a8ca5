use Rattle.std.proofs.Common.{ℕ, ◌-◌, ap, arith}
use Rattle.sd_state.specs.Complexes.{parts}
use Rattle.sd_moves.proofs.Copies.{pooled-copy, pooled-there}
use Rattle.sd_moves.proofs.passing.copy_of.Goals as goal

pub unwrap-requires : goal.unwrap-requires
unwrap-requires g c =
    let rig = c.args.c.now.rig in
    let good = c.requires.good in
    pooled-there (g.G.Rig.seen rig) (g.G.Rig.leaves rig) good.0 c.args.p (parts c.args.c.now) good.1 good.2 c.args.i
    (c.get.result - 1) (omega (arith, c.get.ensures.value, c.get.ensures.low))
    (omega (arith, c.get.ensures.value, c.get.ensures.high)) (ap (λ (n : ℕ). n - 1) c.get.ensures.value)
    c.index.result.now c.index.ensures c.requires.held c.look.result c.look.ensures

pub returns : goal.returns
returns g c =
    let rig = c.args.c.now.rig in
    let good = c.requires.good in
    pooled-copy (g.G.Rig.seen rig) (g.G.Rig.leaves rig) good.0 c.args.p (parts c.args.c.now) good.1 good.2 c.args.i
    (c.get.result - 1) (omega (arith, c.get.ensures.value, c.get.ensures.low))
    (omega (arith, c.get.ensures.value, c.get.ensures.high)) (ap (λ (n : ℕ). n - 1) c.get.ensures.value)
    c.index.result.now c.index.ensures c.requires.held c.look.result c.look.ensures c.unwrap.result c.unwrap.ensures
