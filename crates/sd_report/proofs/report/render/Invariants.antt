use Rattle.std.proofs.Common.{◌≡◌, ℕ, take}
use Rattle.sd_model.specs.Booked.{entries_in}
use Rattle.sd_report.specs.Names.{name_in}
use Rattle.sd_report.specs.Report.{gathered, reported_in}
use Rattle.sd_report.proofs.LineOrder.{Parted}
use Rattle.sd_report.proofs.report.render.Given as goal

abbrev pub invariant-loop-line : goal.invariant-loop-line
invariant-loop-line l =
    record {
      parted : (low : ℕ) × Parted l.lines (entries_in l.entries) (entries_in l.rest) l.line-index low;
      text : l.out.items ≡ gathered (reported_in (name_in l.names) (entries_in l.entries)) (take l.line-index l.lines) (entries_in l.entries);
    }
