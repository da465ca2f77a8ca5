use Rattle.std.proofs.Common.{take}
use Rattle.sd_restart.proofs.Places.{IsPlaced}
use Rattle.sd_restart.proofs.parts.places_of.Given as goal

abbrev pub invariant-loop-p : goal.invariant-loop-p
invariant-loop-p l = IsPlaced l.directory (take l.p l.recs)
