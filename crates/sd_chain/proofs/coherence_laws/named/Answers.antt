use Rattle.sd_chain.proofs.Named.{may_be-named, settle-named, seal-named, change-named, undo-named}
use Rattle.sd_chain.proofs.coherence_laws.named.Goals as goal

pub returns-clause-rest : goal.returns-clause-rest
returns-clause-rest g c = may_be-named g.D.Disks.may g.E.Disks.may

pub returns-clause-settle : goal.returns-clause-settle
returns-clause-settle g c = settle-named g.D.Disks.may g.E.Disks.may

pub returns-clause-seal : goal.returns-clause-seal
returns-clause-seal g c = seal-named g.D.Disks.may g.E.Disks.may

pub returns-clause-change : goal.returns-clause-change
returns-clause-change g c = change-named g.D.Disks.may g.E.Disks.may

pub returns-clause-undo : goal.returns-clause-undo
returns-clause-undo g c = undo-named g.D.Disks.may g.E.Disks.may
