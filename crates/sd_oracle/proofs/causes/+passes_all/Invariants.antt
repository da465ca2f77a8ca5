use Rattle.std.proofs.Common.{length}
use Rattle.sd_oracle.proofs.causes.+passes_all.Given as goal

abbrev pub decreases-passes_all : goal.decreases-passes_all
decreases-passes_all l = length l.causes.now
