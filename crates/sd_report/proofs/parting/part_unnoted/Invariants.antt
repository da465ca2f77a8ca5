use Rattle.std.proofs.Common.{◌≡◌, length}
use Rattle.std.specs.Prelude.{option_map}
use Rattle.sd_model.specs.Booked.{seen_entry}
use Rattle.sd_report.specs.Report.{behind}
use Rattle.sd_report.proofs.OneLine.{last_upto}
use Rattle.sd_report.proofs.parting.part_unnoted.Given as goal

abbrev pub invariant-loop-rest : goal.invariant-loop-rest
invariant-loop-rest l =
    record {
      last : last_upto l.number (option_map seen_entry l.last) l.rest
          ≡ last_upto l.number (option_map seen_entry l.initial.last) l.entries;
      others : behind l.number l.rest ≡ behind l.number l.entries;
    }

abbrev pub decreases-loop-rest : goal.decreases-loop-rest
decreases-loop-rest l = length l.rest
