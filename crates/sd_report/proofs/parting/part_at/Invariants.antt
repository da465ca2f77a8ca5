use Rattle.std.proofs.Common.{◌≡◌, length}
use Rattle.std.specs.Prelude.{None, option_map}
use Rattle.sd_model.specs.Booked.{entries_in, seen_entry, unpacked}
use Rattle.sd_report.specs.Report.{behind}
use Rattle.sd_report.proofs.OneLine.{last_upto}
use Rattle.sd_report.proofs.parting.part_at.Given as goal

abbrev pub invariant-loop-noted : goal.invariant-loop-noted
invariant-loop-noted l =
    record {
      last : last_upto l.number (option_map seen_entry l.last) (unpacked l.noted l.lines l.whole)
          ≡ last_upto l.number None (entries_in l.entries);
      others : behind l.number (unpacked l.noted l.lines l.whole) ≡ behind l.number (entries_in l.entries);
    }

abbrev pub decreases-loop-noted : goal.decreases-loop-noted
decreases-loop-noted l = length l.noted
