use Rattle.sd_chain.proofs.LogsSettled.{settle-keeps, fail-keeps, settled_fail-keeps}
use Rattle.sd_chain.proofs.coherence_laws.forces.Goals as goal

pub returns-clause-settle : goal.returns-clause-settle
returns-clause-settle g c = settle-keeps g.D.Disks.may g.E.Disks.may

pub returns-clause-fail : goal.returns-clause-fail
returns-clause-fail g c = fail-keeps g.D.Disks.may

pub returns-clause-settled : goal.returns-clause-settled
returns-clause-settled g c = settled_fail-keeps g.D.Disks.may
