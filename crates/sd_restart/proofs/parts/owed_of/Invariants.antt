use Rattle.std.proofs.Common.{take}
use Rattle.sd_restart.specs.Reading.{Matches}
use Rattle.sd_restart.proofs.Matching.{IsOwedBy}
use Rattle.sd_restart.proofs.parts.owed_of.Given as goal

abbrev pub invariant-loop-found : goal.invariant-loop-found
invariant-loop-found l = Matches IsOwedBy (take l.found-index l.losers) l.all.items
