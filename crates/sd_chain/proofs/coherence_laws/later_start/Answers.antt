use Rattle.sd_chain.proofs.Checkpoints.{may-shorten, shorten-keeps}
use Rattle.sd_chain.proofs.coherence_laws.later_start.Goals as goal

pub returns-clause-allowed : goal.returns-clause-allowed
returns-clause-allowed g c = may-shorten g.D.Disks.may

pub returns-clause-keeps : goal.returns-clause-keeps
returns-clause-keeps g c = shorten-keeps g.D.Disks.may
