use Rattle.std.proofs.Common.{length}
use Rattle.sd_oracle.proofs.recoveries.+commit_found.Given as goal

abbrev pub decreases-commit_found : goal.decreases-commit_found
decreases-commit_found l = length l.found.now
