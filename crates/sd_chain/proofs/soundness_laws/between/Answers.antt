use Rattle.sd_chain.proofs.ChecksPass.{between-left}
use Rattle.sd_chain.proofs.soundness_laws.between.Goals as goal

pub returns : goal.returns
returns g c = between-left g.M.Moment.leaves
