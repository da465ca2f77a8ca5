use Rattle.sd_chain.proofs.Moves.{row-keeps, row_keeps-rec, lock-keeps, raise-keeps, share-keeps, yield-keeps, take-keeps, drop-keeps}
use Rattle.sd_chain.proofs.coherence_laws.rows.Goals as goal

pub returns-clause-any : goal.returns-clause-any
returns-clause-any g c = row-keeps g.D.Disks.may

pub returns-clause-rec_lsn : goal.returns-clause-rec_lsn
returns-clause-rec_lsn g c = row_keeps-rec g.D.Disks.may

pub returns-clause-lock : goal.returns-clause-lock
returns-clause-lock g c = lock-keeps g.D.Disks.may

pub returns-clause-raise : goal.returns-clause-raise
returns-clause-raise g c = raise-keeps g.D.Disks.may

pub returns-clause-share : goal.returns-clause-share
returns-clause-share g c = share-keeps g.D.Disks.may

pub returns-clause-yield_page : goal.returns-clause-yield_page
returns-clause-yield_page g c = yield-keeps g.D.Disks.may

pub returns-clause-take : goal.returns-clause-take
returns-clause-take g c = take-keeps g.D.Disks.may

pub returns-clause-drop_copy : goal.returns-clause-drop_copy
returns-clause-drop_copy g c = drop-keeps g.D.Disks.may
