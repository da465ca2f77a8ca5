use Rattle.std.proofs.Common.{◌≡◌, None}
use Rattle.sd_state.specs.Fresh.{for_each}
use Rattle.sd_moves.proofs.blanks.no_checks.Given as goal

abbrev pub invariant-loop-n : goal.invariant-loop-n
invariant-loop-n l = l.checks.items ≡ for_each (λ i. None) l._n
