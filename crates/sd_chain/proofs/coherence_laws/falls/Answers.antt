use Rattle.sd_chain.proofs.Falls.{fall-keeps, settled_fall-keeps, begin-keeps}
use Rattle.sd_chain.proofs.coherence_laws.falls.Goals as goal

pub returns-clause-fall : goal.returns-clause-fall
returns-clause-fall g c = fall-keeps g.D.Disks.may

pub returns-clause-settled : goal.returns-clause-settled
returns-clause-settled g c = settled_fall-keeps g.D.Disks.may g.E.Disks.may

pub returns-clause-begin : goal.returns-clause-begin
returns-clause-begin g c = begin-keeps g.D.Disks.may
