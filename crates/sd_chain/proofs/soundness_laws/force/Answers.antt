use Rattle.sd_chain.proofs.Forces.{force-left, forced-keeps, failed-keeps}
use Rattle.sd_chain.proofs.Outcomes.{failed-outcomes}
use Rattle.sd_chain.proofs.soundness_laws.force.Goals as goal

pub returns-clause-during : goal.returns-clause-during
returns-clause-during g c = force-left g.M.Moment.leaves

pub returns-clause-ok : goal.returns-clause-ok
returns-clause-ok g c = forced-keeps g.M.Moment.leaves g.N.Moment.leaves

pub returns-clause-failed : goal.returns-clause-failed
returns-clause-failed g c = failed-keeps g.M.Moment.leaves g.N.Moment.leaves

pub returns-clause-outcomes : goal.returns-clause-outcomes
returns-clause-outcomes g c = failed-outcomes g.M.Moment.leaves g.N.Moment.leaves
