use Rattle.std.proofs.Common.{◌≡◌, ◌≤◌, ◌+◌, length}
use Rattle.sd_model.specs.Booked.{entries_in}
use Rattle.sd_report.specs.Summary.{count_of}
use Rattle.sd_report.proofs.summing.how_many.Given as goal

abbrev pub invariant-loop-seen : goal.invariant-loop-seen
invariant-loop-seen l =
    record {
      count : l.count + count_of l.what (entries_in l.rest) ≡ count_of l.what (entries_in l.entries);
      most : l.count + length (entries_in l.rest) ≤ length (entries_in l.entries);
    }

abbrev pub decreases-loop-seen : goal.decreases-loop-seen
decreases-loop-seen l = length (entries_in l.rest)
