use Rattle.std.proofs.Common.{length}
use Rattle.std.specs.Prelude.{◌↔◌}
use Rattle.sd_model.specs.Booked.{entries_in}
use Rattle.sd_report.specs.Report.{AreFrom}
use Rattle.sd_report.proofs.order.entries_rise.Given as goal

abbrev pub invariant-loop-seen : goal.invariant-loop-seen
invariant-loop-seen l = AreFrom 0 (entries_in l.entries) ↔ AreFrom l.low (entries_in l.rest)

abbrev pub decreases-loop-seen : goal.decreases-loop-seen
decreases-loop-seen l = length (entries_in l.rest)
