use Rattle.sd_chain.proofs.Images.{none_open}
use Rattle.sd_chain.proofs.laws.holding.Goals as goal

pub returns : goal.returns
returns g c one tails holds t p s held u ne o = none_open g.L.Locks.holds one tails t p s held u ne (holds u o)
