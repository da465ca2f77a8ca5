use Rattle.sd_script.proofs.FirstCause.{no_cause}
use Rattle.sd_script.proofs.laws.no_cause_of_good.Goals as goal

pub returns : goal.returns
returns c = no_cause
