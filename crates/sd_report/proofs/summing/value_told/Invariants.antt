use Rattle.std.proofs.Common.{◌≡◌, length}
use Rattle.std.specs.Map.{lookup}
use Rattle.sd_base.specs.Ids.{same_rid}
use Rattle.sd_model.specs.Booked.{entries_in}
use Rattle.sd_report.specs.Report.{entries_of, table_rows}
use Rattle.sd_report.proofs.summing.value_told.Given as goal

abbrev pub invariant-loop-seen : goal.invariant-loop-seen
invariant-loop-seen l = lookup (same_rid l.rid) (table_rows (entries_of l.line (entries_in l.rest)))
    ≡ lookup (same_rid l.rid) (table_rows (entries_of l.line (entries_in l.entries)))

abbrev pub decreases-loop-seen : goal.decreases-loop-seen
decreases-loop-seen l = length (entries_in l.rest)
