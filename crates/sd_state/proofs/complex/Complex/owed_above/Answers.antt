use Rattle.std.proofs.Common.{◌-◌, ◌^◌}
use Rattle.sd_state.specs.Complexes.{parts}
use Rattle.sd_state.specs.Sums.{owes_above}
use Rattle.sd_state.proofs.Summed.{next-sum}
use Rattle.sd_state.proofs.complex.Complex.owed_above.Goals as goal

pub loop-n-preserved : goal.loop-n-preserved
loop-n-preserved g c =
    next-sum (owes_above (parts c.args.self.now)) c.loop-n.n c.loop-n.sum c.owes_above.result
    c.saturating_add-sum.result (2 ^ 64 - 1) c.loop-n.invariant c.owes_above.ensures c.saturating_add-sum.ensures
