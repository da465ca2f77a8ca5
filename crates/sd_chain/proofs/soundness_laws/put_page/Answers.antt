use Rattle.sd_chain.proofs.Lsns.{newest-has_lsns}
use Rattle.sd_chain.proofs.Outcomes.{put-outcomes}
use Rattle.sd_chain.proofs.Puts.{put-left, put-keeps}
use Rattle.sd_chain.proofs.soundness_laws.put_page.Goals as goal

pub returns-clause-during : goal.returns-clause-during
returns-clause-during g c = put-left g.M.Moment.leaves

pub returns-clause-keeps : goal.returns-clause-keeps
returns-clause-keeps g c = put-keeps g.M.Moment.leaves g.N.Moment.leaves

pub returns-clause-outcomes : goal.returns-clause-outcomes
returns-clause-outcomes g c = put-outcomes g.M.Moment.leaves g.N.Moment.leaves

pub returns-clause-lsns : goal.returns-clause-lsns
returns-clause-lsns g c = newest-has_lsns g.M.Moment.leaves
