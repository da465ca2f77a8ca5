use Rattle.std.proofs.Common.{sym}
use Rattle.sd_script.proofs.Lines.{line_to_end, line_to_feed}
use Rattle.sd_top.proofs.first_bad.cut_first.Goals as goal

pub returns-in-Some-clause-lines : goal.returns-in-Some-clause-lines
returns-in-Some-clause-lines c = line_to_feed c.args.text.now c.in-Some.end (sym c.in-Some.ensures)

pub returns-in-None-clause-lines : goal.returns-in-None-clause-lines
returns-in-None-clause-lines c = line_to_end c.args.text.now c.requires (sym c.in-None.ensures)
