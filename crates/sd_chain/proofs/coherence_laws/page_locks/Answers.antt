use Rattle.sd_chain.proofs.OneUpdater.{one-updates, each-newest, moving-newest}
use Rattle.sd_chain.proofs.coherence_laws.page_locks.Goals as goal

pub returns-clause-one : goal.returns-clause-one
returns-clause-one g c = one-updates g.D.Disks.may

pub returns-clause-newest : goal.returns-clause-newest
returns-clause-newest g c = each-newest g.D.Disks.may

pub returns-clause-moving : goal.returns-clause-moving
returns-clause-moving g c = moving-newest g.D.Disks.may
