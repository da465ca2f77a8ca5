use Rattle.std.proofs.Common.{◌-◌, ◌≤◌, length, take}
use Rattle.sd_log.specs.Logs.{flats}
use Rattle.sd_recovered.specs.Misplaced.{IsLeast}
use Rattle.sd_recovered.specs.Seen.{TellsAll}
use Rattle.sd_recovered.proofs.losers.analyse.Given as goal

abbrev pub invariant-loop-at : goal.invariant-loop-at
invariant-loop-at l = record {
  inside : l.at ≤ length l.log;
  known : TellsAll l.log (flats (take l.at l.log)) l.known.closed l.known.rows.entries;
  least : IsLeast (flats (take l.at l.log)) l.worst;
}

abbrev pub decreases-loop-at : goal.decreases-loop-at
decreases-loop-at l = length l.log - l.at
