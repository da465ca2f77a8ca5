use Rattle.std.proofs.Common.{◌-◌, ◌^◌, cond, eqb}
use Rattle.sd_state.specs.Complexes.{parts}
use Rattle.sd_state.specs.Sums.{owes_most}
use Rattle.sd_state.proofs.Summed.{next-sum}
use Rattle.sd_state.proofs.complex.Complex.owed_where.Goals as goal

pub loop-n-preserved : goal.loop-n-preserved
loop-n-preserved g c =
    next-sum (λ j. cond (eqb j c.args.i) c.args.own (owes_most (parts c.args.self.now) j)) c.loop-n.n c.loop-n.sum c.owes_where.result
    c.saturating_add-sum.result (2 ^ 64 - 1) c.loop-n.invariant c.owes_where.ensures c.saturating_add-sum.ensures
