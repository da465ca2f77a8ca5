use Rattle.sd_recovered.proofs.Ending.{Ending}
use Rattle.sd_recovered.proofs.losers.losers_of.Given as goal

abbrev pub invariant-loop-txn : goal.invariant-loop-txn
invariant-loop-txn l = Ending l.log l.fn.known.rows.entries l.txn-iterator l.losers.items l.worst
