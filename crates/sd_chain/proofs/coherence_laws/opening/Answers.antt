use Rattle.sd_chain.proofs.Statuses.{opening-coherent}
use Rattle.sd_chain.proofs.coherence_laws.opening.Goals as goal

pub returns : goal.returns
returns c = opening-coherent
