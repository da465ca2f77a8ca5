use Rattle.sd_state.proofs.Standing.{left-stands, force-left-stands}
use Rattle.sd_state.proofs.laws.images.Goals as goal

pub returns-clause-left : goal.returns-clause-left
returns-clause-left g c = left-stands g.M.Moment.leaves

pub returns-clause-force : goal.returns-clause-force
returns-clause-force g c = force-left-stands g.M.Moment.leaves
