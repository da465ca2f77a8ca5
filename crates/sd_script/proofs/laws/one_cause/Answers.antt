use Rattle.sd_script.proofs.FirstCause.{one_cause}
use Rattle.sd_script.proofs.laws.one_cause.Goals as goal

pub returns : goal.returns
returns c = one_cause
