use Rattle.std.proofs.Common.{length}
use Rattle.sd_recovered.proofs.ends.+check_room.Given as goal

abbrev pub decreases-check_room : goal.decreases-check_room
decreases-check_room l = length l.logs.now
