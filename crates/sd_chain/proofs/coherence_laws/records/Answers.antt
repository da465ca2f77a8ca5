use Rattle.sd_chain.proofs.Changes.{change-keeps, seal-keeps, rest-keeps}
use Rattle.sd_chain.proofs.coherence_laws.records.Goals as goal

pub returns-clause-change : goal.returns-clause-change
returns-clause-change g c = change-keeps g.D.Disks.may g.E.Disks.may

pub returns-clause-seal : goal.returns-clause-seal
returns-clause-seal g c = seal-keeps g.D.Disks.may g.E.Disks.may

pub returns-clause-rest : goal.returns-clause-rest
returns-clause-rest g c = rest-keeps g.D.Disks.may g.E.Disks.may
