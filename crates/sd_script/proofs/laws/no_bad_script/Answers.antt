use Rattle.sd_script.proofs.Readings.{no_bad_script}
use Rattle.sd_script.proofs.laws.no_bad_script.Goals as goal

pub returns : goal.returns
returns c = no_bad_script
