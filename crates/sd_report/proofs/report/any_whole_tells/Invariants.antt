use Rattle.std.proofs.Common.{◌≡◌, length}
use Rattle.sd_report.specs.Report.{tell_txns}
use Rattle.sd_report.proofs.report.any_whole_tells.Given as goal

abbrev pub invariant-loop-rest : goal.invariant-loop-rest
invariant-loop-rest l = tell_txns l.rest ≡ tell_txns l.entries

abbrev pub decreases-loop-rest : goal.decreases-loop-rest
decreases-loop-rest l = length l.rest
