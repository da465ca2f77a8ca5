use Rattle.std.proofs.Common.{◌≡◌}
use Rattle.sd_chain.specs.Logs.{new_log}
use Rattle.sd_state.specs.Fresh.{for_each}
use Rattle.sd_moves.proofs.blanks.new_logs.Given as goal

abbrev pub invariant-loop-n : goal.invariant-loop-n
invariant-loop-n l = l.logs.items ≡ for_each (λ i. new_log i 0) l.n
