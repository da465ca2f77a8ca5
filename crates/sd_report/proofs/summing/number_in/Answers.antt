use Rattle.std.proofs.Common.{ap, ◌∙◌}
use Rattle.sd_report.specs.Summary.{number_of}
use Rattle.sd_report.proofs.NumberTexts.{number_is}
use Rattle.sd_report.proofs.summing.number_in.Goals as goal

pub returns : goal.returns
returns c = number_is c.items.result.now c.number.result c.number.ensures ∙ ap number_of c.items.ensures
