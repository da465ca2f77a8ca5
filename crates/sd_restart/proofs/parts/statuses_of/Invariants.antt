use Rattle.std.proofs.Common.{◌≡◌, map, take}
use Rattle.sd_restart.specs.Reading.{status_for}
use Rattle.sd_restart.proofs.parts.statuses_of.Given as goal

abbrev pub invariant-loop-found : goal.invariant-loop-found
invariant-loop-found l = l.statuses.items ≡ map (status_for l.lost) (take l.found-index l.losers)
