use Rattle.std.proofs.Common.{◌≡◌}
use Rattle.sd_state.specs.Fresh.{for_each}
use Rattle.sd_moves.proofs.blanks.repeated.Given as goal

abbrev pub invariant-loop-n : goal.invariant-loop-n
invariant-loop-n g l = l.items.items ≡ for_each (λ i. l.item) l._n
