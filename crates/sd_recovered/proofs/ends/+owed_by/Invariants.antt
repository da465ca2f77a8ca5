use Rattle.std.proofs.Common.{length}
use Rattle.sd_recovered.proofs.ends.+owed_by.Given as goal

abbrev pub decreases-owed_by : goal.decreases-owed_by
decreases-owed_by l = length l.losers.now
