use Rattle.std.proofs.Common.{◌≡◌, map, take}
use Rattle.sd_restart.specs.Reading.{count_of}
use Rattle.sd_restart.proofs.parts.counts_of.Given as goal

abbrev pub invariant-loop-master : goal.invariant-loop-master
invariant-loop-master l = l.counts.items ≡ map count_of (take l.master-index l.masters)
