use Rattle.sd_chain.proofs.OneUpdater.{tails-agree, active-count, inactive-none, newest-high, up-settled, committed-there, open-there}
use Rattle.sd_chain.proofs.coherence_laws.newest_versions.Goals as goal

pub returns-clause-quiet : goal.returns-clause-quiet
returns-clause-quiet g c = tails-agree g.D.Disks.may

pub returns-clause-active : goal.returns-clause-active
returns-clause-active g c = active-count g.D.Disks.may

pub returns-clause-inactive : goal.returns-clause-inactive
returns-clause-inactive g c = inactive-none g.D.Disks.may

pub returns-clause-up : goal.returns-clause-up
returns-clause-up g c = up-settled g.D.Disks.may

pub returns-clause-high : goal.returns-clause-high
returns-clause-high g c = newest-high g.D.Disks.may

pub returns-clause-committed : goal.returns-clause-committed
returns-clause-committed g c = committed-there g.D.Disks.may

pub returns-clause-open : goal.returns-clause-open
returns-clause-open g c = open-there g.D.Disks.may
