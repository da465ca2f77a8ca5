use Rattle.std.proofs.Common.{length}
use Rattle.sd_script.proofs.causes.«+fit».Given as goal

abbrev pub decreases-fit : goal.decreases-fit
decreases-fit l = length l.parts.now
