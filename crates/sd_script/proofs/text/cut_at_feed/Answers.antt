use Rattle.std.proofs.Common.{sym}
use Rattle.sd_script.proofs.Lines.{line_to_feed, line_to_end}
use Rattle.sd_script.proofs.text.cut_at_feed.Goals as goal

pub returns-in-Some-clause-lines : goal.returns-in-Some-clause-lines
returns-in-Some-clause-lines c = line_to_feed c.args.text.now c.in-Some.end (sym c.in-Some.ensures)

pub returns-in-None-clause-lines : goal.returns-in-None-clause-lines
returns-in-None-clause-lines c = line_to_end c.args.text.now c.requires (sym c.in-None.ensures)
