use Rattle.sd_state.proofs.Standing.{one-may-update, each-copy-is-newest}
use Rattle.sd_state.proofs.laws.page_locks.Goals as goal

pub returns-clause-one : goal.returns-clause-one
returns-clause-one g c = one-may-update g.M.Moment.leaves

pub returns-clause-newest : goal.returns-clause-newest
returns-clause-newest g c = each-copy-is-newest g.M.Moment.leaves
