use Rattle.std.proofs.Common.{◌≡◌}
use Rattle.sd_log.specs.SpellingsInside.{lowered}
use Rattle.sd_log.proofs.Lowered.{written_to}
use Rattle.sd_log.proofs.spellings.lower.Given as goal

abbrev pub invariant-loop-slot : goal.invariant-loop-slot
invariant-loop-slot l = l.slots ≡ written_to (lowered l.gone) l.slot-index l.fn.slots
