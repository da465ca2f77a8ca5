use Rattle.std.proofs.Common.{length}
use Rattle.sd_oracle.proofs.rows.+agree_at_acts.Given as goal

abbrev pub decreases-agree_at_acts : goal.decreases-agree_at_acts
decreases-agree_at_acts l = length l.acts.now
