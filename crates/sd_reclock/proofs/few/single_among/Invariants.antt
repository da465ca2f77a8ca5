use Rattle.std.proofs.Common.{◌-◌, length}
use Rattle.sd_reclock.proofs.few.single_among.Given as goal

abbrev pub decreases-loop-at : goal.decreases-loop-at
decreases-loop-at l = length l.rows - l.at
