use Rattle.sd_chain.proofs.Checkpoints.{cover-begins, cover-grows, cover-settles, cover-puts, cover-stays}
use Rattle.sd_chain.proofs.coherence_laws.covered.Goals as goal

pub returns-clause-begins : goal.returns-clause-begins
returns-clause-begins g c = cover-begins g.D.Disks.may

pub returns-clause-grows : goal.returns-clause-grows
returns-clause-grows g c = cover-grows g.D.Disks.may g.E.Disks.may

pub returns-clause-settles : goal.returns-clause-settles
returns-clause-settles g c = cover-settles g.D.Disks.may g.E.Disks.may

pub returns-clause-puts : goal.returns-clause-puts
returns-clause-puts g c = cover-puts g.D.Disks.may g.E.Disks.may

pub returns-clause-stays : goal.returns-clause-stays
returns-clause-stays g c = cover-stays g.D.Disks.may g.E.Disks.may
