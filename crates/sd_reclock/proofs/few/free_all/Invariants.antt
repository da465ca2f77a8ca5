use Rattle.sd_reclock.proofs.Placed.{IsFreedFrom}
use Rattle.sd_reclock.proofs.few.free_all.Given as goal

abbrev pub invariant-loop-at : goal.invariant-loop-at
invariant-loop-at l = IsFreedFrom l.t l.at l.fn.rows.items l.rows.items

abbrev pub decreases-loop-at : goal.decreases-loop-at
decreases-loop-at l = l.at
