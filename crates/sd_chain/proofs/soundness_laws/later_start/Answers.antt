use Rattle.sd_chain.proofs.Starts.{later-keeps}
use Rattle.sd_chain.proofs.soundness_laws.later_start.Goals as goal

pub returns : goal.returns
returns g c = later-keeps g.M.Moment.leaves g.N.Moment.leaves
