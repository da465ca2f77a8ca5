use Rattle.std.proofs.Common.{◌≡◌, ◌+◌, ◌≤◌, ◌++◌, length, vec_len}
use Rattle.std.specs.List.{flat_map}
use Rattle.sd_model.specs.Booked.{entries_in}
use Rattle.sd_report.specs.Report.{entries_of, row_line, table_rows, upto}
use Rattle.sd_report.proofs.report.push_own_rows.Given as goal

abbrev pub invariant-loop-seen : goal.invariant-loop-seen
invariant-loop-seen l =
    record {
      text : l.out.items ++ flat_map row_line (table_rows (entries_of l.number (upto l.number (entries_in l.rest))))
          ≡ l.fn.out.items ++ flat_map row_line (table_rows (entries_of l.number (upto l.number (entries_in l.entries))));
      count : l.count + length (table_rows (entries_of l.number (upto l.number (entries_in l.rest))))
          ≡ length (table_rows (entries_of l.number (upto l.number (entries_in l.entries))));
      bytes : l.count ≤ vec_len l.out;
    }

abbrev pub decreases-loop-seen : goal.decreases-loop-seen
decreases-loop-seen l = length (entries_in l.rest)
