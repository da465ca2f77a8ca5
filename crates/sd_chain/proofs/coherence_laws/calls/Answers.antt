use Rattle.sd_chain.proofs.Calls.{undo_for-keeps, undo_for_fail-keeps, undo_for_fall-keeps, own_fall-keeps}
use Rattle.sd_chain.proofs.coherence_laws.calls.Goals as goal

pub returns-clause-undo : goal.returns-clause-undo
returns-clause-undo g c = undo_for-keeps g.D.Disks.may g.E.Disks.may

pub returns-clause-undo_fails : goal.returns-clause-undo_fails
returns-clause-undo_fails g c = undo_for_fail-keeps g.D.Disks.may g.E.Disks.may

pub returns-clause-undo_falls : goal.returns-clause-undo_falls
returns-clause-undo_falls g c = undo_for_fall-keeps g.D.Disks.may g.E.Disks.may

pub returns-clause-own_fall : goal.returns-clause-own_fall
returns-clause-own_fall g c = own_fall-keeps g.D.Disks.may
