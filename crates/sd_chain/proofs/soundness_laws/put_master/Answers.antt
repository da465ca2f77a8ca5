use Rattle.sd_chain.proofs.Outcomes.{put-outcomes}
use Rattle.sd_chain.proofs.Masters.{master_put-left, master_put-keeps}
use Rattle.sd_chain.proofs.soundness_laws.put_master.Goals as goal

pub returns-clause-during : goal.returns-clause-during
returns-clause-during g c = master_put-left g.M.Moment.leaves

pub returns-clause-keeps : goal.returns-clause-keeps
returns-clause-keeps g c = master_put-keeps g.M.Moment.leaves g.N.Moment.leaves

pub returns-clause-outcomes : goal.returns-clause-outcomes
returns-clause-outcomes g c = put-outcomes g.M.Moment.leaves g.N.Moment.leaves
