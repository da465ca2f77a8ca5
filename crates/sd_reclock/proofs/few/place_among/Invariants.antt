use Rattle.std.proofs.Common.{◌-◌, length}
use Rattle.sd_reclock.proofs.Placed.{NotIn}
use Rattle.sd_reclock.proofs.few.place_among.Given as goal

abbrev pub invariant-loop-at : goal.invariant-loop-at
invariant-loop-at l = NotIn l.r l.at l.rows

abbrev pub decreases-loop-at : goal.decreases-loop-at
decreases-loop-at l = length l.rows - l.at
