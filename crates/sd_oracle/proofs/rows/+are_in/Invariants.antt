use Rattle.std.proofs.Common.{length}
use Rattle.sd_oracle.proofs.rows.+are_in.Given as goal

abbrev pub decreases-are_in : goal.decreases-are_in
decreases-are_in l = length l.rows.now
