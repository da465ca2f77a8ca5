use Rattle.sd_chain.proofs.Crashes.{stands, force-stands, put-stands, put-gives}
use Rattle.sd_chain.proofs.coherence_laws.crashes.Goals as goal

pub returns-clause-left : goal.returns-clause-left
returns-clause-left g c = stands g.D.Disks.may

pub returns-clause-force : goal.returns-clause-force
returns-clause-force g c = force-stands g.D.Disks.may

pub returns-clause-put : goal.returns-clause-put
returns-clause-put g c = put-stands g.D.Disks.may

pub returns-clause-gives : goal.returns-clause-gives
returns-clause-gives g c = put-gives g.D.Disks.may
