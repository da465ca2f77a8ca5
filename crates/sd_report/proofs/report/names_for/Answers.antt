use Rattle.std.proofs.Common.{◌≡◌, ◌∙◌, List, sym}
use Rattle.std.specs.Prelude.{Result, Ok, Err, IfOk}
use Rattle.sd_base.specs.declared.ids.TxnId.{TxnId}
use Rattle.sd_base.specs.declared.refusal.Memory.{Memory}
use Rattle.sd_model.specs.declared.event.Entry.{Entry}
use Rattle.sd_script.specs.declared.line.Line.{Line}
use Rattle.sd_report.specs.declared.txn_names.TxnNames.{TxnNames}
use Rattle.sd_model.specs.Booked.{entries_in}
use Rattle.sd_report.specs.Names.{name_in}
use Rattle.sd_report.specs.Report.{gathered, report, reported_in, names_of}
use Rattle.sd_report.proofs.FewBytes.{none_tells}
use Rattle.sd_report.proofs.Unnamed.{same_report}
use Rattle.sd_report.proofs.report.names_for.Goals as goal

-- none that stands whole tells a transaction
pub returns-else-any_whole_tells : goal.returns-else-any_whole_tells
returns-else-any_whole_tells c =
    let entries = c.args.entries in
    same_report (name_in c.new.result) (names_of c.args.lines.now (entries_in entries)) c.args.lines.now (entries_in entries)
    (none_tells entries.noted.now entries.lines.now entries.whole.now
    (sym c.any_whole_tells.ensures ∙ c.if-any_whole_tells.false))

named_report : (lines : List Line) (entries : List Entry) (r : Result TxnNames Memory)
    → IfOk r (λ names. (t : TxnId) → name_in names t ≡ names_of lines entries t)
    → IfOk r (λ names. gathered (reported_in (name_in names) entries) lines entries ≡ report lines entries)
named_report lines entries (Ok names) same = λ i. gathered (reported_in (λ t. same t i) entries) lines entries
named_report lines entries (Err e) same = tt

pub returns-then-any_whole_tells : goal.returns-then-any_whole_tells
returns-then-any_whole_tells c = named_report c.args.lines.now (entries_in c.args.entries) c.known_names.result c.known_names.ensures
