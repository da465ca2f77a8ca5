use Rattle.std.proofs.Common.{◌≡◌, ◌*◌, pos, neg_ℤ, ◌≤ℤ◌}
use Rattle.std.specs.Prelude.{Some}
use Rattle.sd_model.specs.Booked.{entries_in}
use Rattle.sd_report.specs.Report.{entries_of, table_rows}
use Rattle.sd_report.specs.Summary.{total_of}
use Rattle.sd_report.proofs.summing.total.Given as goal

abbrev pub invariant-loop-account_number : goal.invariant-loop-account_number
invariant-loop-account_number l =
    record {
      sum : total_of l.account_number (table_rows (entries_of l.line (entries_in l.entries))) ≡ Some l.total;
      low : neg_ℤ (pos (9223372036854775808 * l.account_number)) ≤ℤ l.total;
      high : l.total ≤ℤ pos (9223372036854775808 * l.account_number);
    }
