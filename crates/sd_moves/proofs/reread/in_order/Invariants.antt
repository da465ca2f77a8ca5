use Rattle.std.proofs.Common.{◌≡◌, ◌++◌}
use Rattle.sd_moves.proofs.reread.in_order.Given as goal

abbrev pub invariant-loop-row : goal.invariant-loop-row
invariant-loop-row l = l.who.items ++ l.row-iterator ≡ l.fn.states.entries
