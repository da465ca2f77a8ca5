use Rattle.sd_chain.proofs.Next.{may_come-there, next_epoch-other}
use Rattle.sd_chain.proofs.Reserved.{tested-keeps}
use Rattle.sd_chain.proofs.soundness_laws.append.Goals as goal

pub returns-clause-keeps : goal.returns-clause-keeps
returns-clause-keeps g c = tested-keeps g.M.Moment.leaves

pub returns-clause-own : goal.returns-clause-own
returns-clause-own g c = may_come-there g.M.Moment.leaves

pub returns-clause-others : goal.returns-clause-others
returns-clause-others g c = next_epoch-other
