use Rattle.std.proofs.Common.{◌≡◌, ◌^◌, ◌-◌, min}
use Rattle.sd_state.specs.Complexes.{parts}
use Rattle.sd_state.specs.Sums.{owes_above, sum_to}
use Rattle.sd_state.proofs.complex.Complex.owed_above.Given as goal

abbrev pub invariant-loop-n : goal.invariant-loop-n
invariant-loop-n g l = l.sum ≡ min (sum_to (owes_above (parts l.self)) l.n) (2 ^ 64 - 1)
