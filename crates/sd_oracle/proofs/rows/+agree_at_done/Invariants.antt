use Rattle.std.proofs.Common.{length}
use Rattle.sd_oracle.proofs.rows.+agree_at_done.Given as goal

abbrev pub decreases-agree_at_done : goal.decreases-agree_at_done
decreases-agree_at_done l = length l.done.now
