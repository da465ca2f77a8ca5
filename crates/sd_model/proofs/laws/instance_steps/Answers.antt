use Rattle.sd_model.proofs.Steps.{join-step, list-step}
use Rattle.sd_model.proofs.laws.instance_steps.Goals as goal

pub returns : goal.returns
returns c = record { joined = join-step; listed = list-step }
