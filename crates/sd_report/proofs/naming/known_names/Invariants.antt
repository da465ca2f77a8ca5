use Rattle.std.proofs.Common.{◌≡◌, ℕ, take}
use Rattle.sd_base.specs.declared.ids.TxnId.{TxnId}
use Rattle.sd_model.specs.Booked.{entries_in}
use Rattle.sd_report.specs.Names.{name_in}
use Rattle.sd_report.specs.Report.{names_of}
use Rattle.sd_report.proofs.LineOrder.{Parted}
use Rattle.sd_report.proofs.naming.known_names.Given as goal

abbrev pub invariant-loop-line : goal.invariant-loop-line
invariant-loop-line l =
    record {
      parted : (low : ℕ) × Parted l.lines (entries_in l.entries) (entries_in l.rest) l.line-index low;
      names : (t : TxnId) → name_in l.names t ≡ names_of (take l.line-index l.lines) (entries_in l.entries) t;
    }
