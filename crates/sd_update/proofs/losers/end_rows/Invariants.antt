use Rattle.sd_update.proofs.RecoverRows.{HaveEnded}
use Rattle.sd_update.proofs.losers.end_rows.Given as goal

abbrev pub invariant-loop-n : goal.invariant-loop-n
invariant-loop-n l = HaveEnded l._n l.fn.table l.table l.fn.locks l.locks
