use Rattle.std.proofs.Common.{length}
use Rattle.sd_oracle.proofs.slots.+any_slot.Given as goal

abbrev pub decreases-any_slot : goal.decreases-any_slot
decreases-any_slot l = length l.claims.now
