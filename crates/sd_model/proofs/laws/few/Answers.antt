use Rattle.sd_model.proofs.Few.{few-steps}
use Rattle.sd_model.proofs.laws.few.Goals as goal

pub returns : goal.returns
returns c = few-steps
