use Rattle.sd_chain.proofs.Forces.{synced-keeps}
use Rattle.sd_chain.proofs.soundness_laws.sync.Goals as goal

pub returns : goal.returns
returns g c = synced-keeps g.M.Moment.leaves g.N.Moment.leaves
