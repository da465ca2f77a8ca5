use Rattle.std.proofs.Common.{◌≡◌}
use Rattle.sd_state.specs.Fresh.{for_each, empty_table}
use Rattle.sd_moves.proofs.blanks.empty_tables.Given as goal

abbrev pub invariant-loop-n : goal.invariant-loop-n
invariant-loop-n l = l.txns.items ≡ for_each (empty_table) l.n
