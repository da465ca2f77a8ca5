use Rattle.std.proofs.Common.{◌≡◌}
use Rattle.sd_state.specs.Fresh.{for_each, empty_pool}
use Rattle.sd_moves.proofs.blanks.empty_pools.Given as goal

abbrev pub invariant-loop-n : goal.invariant-loop-n
invariant-loop-n l = l.pools.items ≡ for_each (λ i. empty_pool l.frames) l._n
