use Rattle.sd_chain.proofs.Changes.{lone, change-may_come, undo-may_come}
use Rattle.sd_chain.proofs.coherence_laws.may_come.Goals as goal

pub returns-clause-lone : goal.returns-clause-lone
returns-clause-lone g c = lone g.D.Disks.may

pub returns-clause-change : goal.returns-clause-change
returns-clause-change g c = change-may_come g.D.Disks.may

pub returns-clause-undo : goal.returns-clause-undo
returns-clause-undo g c = undo-may_come g.D.Disks.may
