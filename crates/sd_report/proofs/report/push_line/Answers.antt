use Rattle.std.proofs.Common.{ap, sym, ◌∙◌}
use Rattle.std.specs.Prelude.{Some}
use Rattle.std.specs.Option.{option_map}
use Rattle.sd_model.specs.Booked.{entries_in, seen_entry}
use Rattle.sd_model.specs.declared.told.Seen.{Seen}
use Rattle.sd_report.specs.Report.{upto}
use Rattle.sd_report.proofs.OneLine.{no_help}
use Rattle.sd_report.proofs.report.push_line.Goals as goal

pub returns-in-Some-Help : goal.returns-in-Some-Help
returns-in-Some-Help c =
    let n = c.args.line.now.number in
    let help = rw c.in-Some-Help.is at c.in-Some-Help.field-0-is in
    absurd (no_help n (upto n (entries_in c.args.entries)) c.in-Some-Help.field-0-0.now c.requires.number
    (sym (ap (option_map seen_entry) (c.in-Some-Help.is ∙ ap (λ (s : Seen). Some s) help)) ∙ c.requires.last))
