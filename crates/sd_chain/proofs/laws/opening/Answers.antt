use Rattle.sd_chain.proofs.Images.{opening-safe, opening-gives}
use Rattle.sd_chain.proofs.laws.opening.Goals as goal

pub returns-clause-safe : goal.returns-clause-safe
returns-clause-safe c img o = opening-safe img o.sound o.eight o.numbered o.order

pub returns-clause-gives : goal.returns-clause-gives
returns-clause-gives c img o value gives = opening-gives img o.sound o.eight o.numbered o.order value gives
