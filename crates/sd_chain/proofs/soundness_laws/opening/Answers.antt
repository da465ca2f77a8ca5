use Rattle.sd_chain.proofs.Opened.{opened-sound}
use Rattle.sd_chain.proofs.soundness_laws.opening.Goals as goal

pub returns : goal.returns
returns g c = opened-sound g.M.Moment.leaves
