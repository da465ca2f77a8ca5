use Rattle.sd_script.proofs.Readings.{one_bad_line}
use Rattle.sd_script.proofs.laws.one_bad_line.Goals as goal

pub returns : goal.returns
returns c = one_bad_line
