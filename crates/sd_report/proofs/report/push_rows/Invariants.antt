use Rattle.std.proofs.Common.{◌≡◌, ◌+◌, ◌≤◌, ◌++◌, take, vec_len}
use Rattle.std.specs.List.{flat_map}
use Rattle.sd_report.specs.Report.{row_line}
use Rattle.sd_report.proofs.report.push_rows.Given as goal

abbrev pub invariant-loop-rid : goal.invariant-loop-rid
invariant-loop-rid l =
    record {
      text : l.out.items ≡ l.fn.out.items ++ flat_map row_line (take l.rid-index l.rows);
      bytes : vec_len l.fn.out + l.rid-index ≤ vec_len l.out;
    }
