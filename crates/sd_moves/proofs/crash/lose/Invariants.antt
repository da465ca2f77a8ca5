use Rattle.sd_moves.proofs.FallRows.{HaveLost}
use Rattle.sd_moves.proofs.crash.lose.Given as goal

abbrev pub invariant-loop-n : goal.invariant-loop-n
invariant-loop-n l = HaveLost l.n l.fn.table l.table
