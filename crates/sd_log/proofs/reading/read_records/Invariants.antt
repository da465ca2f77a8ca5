use Rattle.std.proofs.Common.{◌-◌, length}
use Rattle.sd_log.proofs.Bodies.{ReadsTo}
use Rattle.sd_log.proofs.reading.read_records.Given as goal

abbrev pub invariant-loop-at : goal.invariant-loop-at
invariant-loop-at l = ReadsTo l.body l.at l.fn.journal l.journal

abbrev pub decreases-loop-at : goal.decreases-loop-at
decreases-loop-at l = length l.body - l.at
