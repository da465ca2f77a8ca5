use Rattle.std.proofs.Common.{◌≡◌, ◌^◌, ◌-◌, min, cond, eqb}
use Rattle.sd_state.specs.Complexes.{parts}
use Rattle.sd_state.specs.Sums.{owes_most, sum_to}
use Rattle.sd_state.proofs.complex.Complex.owed_where.Given as goal

abbrev pub invariant-loop-n : goal.invariant-loop-n
invariant-loop-n g l = l.sum ≡ min (sum_to (λ j. cond (eqb j l.i) l.own (owes_most (parts l.self) j)) l.n) (2 ^ 64 - 1)
