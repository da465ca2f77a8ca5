use Rattle.sd_script.proofs.Idle.{limits_of_idle}
use Rattle.sd_script.proofs.laws.limits_of_idle.Goals as goal

pub returns : goal.returns
returns c = limits_of_idle
