use Rattle.std.proofs.Common.{length}
use Rattle.sd_oracle.proofs.rows.+agree_at_rows.Given as goal

abbrev pub decreases-agree_at_rows : goal.decreases-agree_at_rows
decreases-agree_at_rows l = length l.some.now
