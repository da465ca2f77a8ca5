use Rattle.sd_chain.proofs.Statuses.{status-keeps}
use Rattle.sd_chain.proofs.coherence_laws.statuses.Goals as goal

pub returns : goal.returns
returns g c = status-keeps g.D.Disks.may
