use Rattle.sd_chain.proofs.Forces.{settled-keeps}
use Rattle.sd_chain.proofs.soundness_laws.settle.Goals as goal

pub returns : goal.returns
returns g c = settled-keeps g.M.Moment.leaves g.N.Moment.leaves
