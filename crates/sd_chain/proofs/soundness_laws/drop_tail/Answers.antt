use Rattle.sd_chain.proofs.Forces.{dropped-keeps}
use Rattle.sd_chain.proofs.soundness_laws.drop_tail.Goals as goal

pub returns : goal.returns
returns g c = dropped-keeps g.M.Moment.leaves
