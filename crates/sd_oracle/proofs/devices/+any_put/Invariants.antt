use Rattle.std.proofs.Common.{length}
use Rattle.sd_oracle.proofs.devices.+any_put.Given as goal

abbrev pub decreases-any_put : goal.decreases-any_put
decreases-any_put l = length l.acts.now
