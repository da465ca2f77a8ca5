use Rattle.sd_chain.proofs.Closed.{close-begins, close-grows, close-settles, close-stays}
use Rattle.sd_chain.proofs.coherence_laws.closed.Goals as goal

pub returns-clause-begins : goal.returns-clause-begins
returns-clause-begins c = close-begins

pub returns-clause-grows : goal.returns-clause-grows
returns-clause-grows c = close-grows

pub returns-clause-settles : goal.returns-clause-settles
returns-clause-settles c = close-settles

pub returns-clause-stays : goal.returns-clause-stays
returns-clause-stays c = close-stays
