use Rattle.sd_chain.proofs.DiskPuts.{forced-none, lost-none, put-is_safe, try-keeps, write-keeps, sync-keeps, same-lsn, unput-keeps}
use Rattle.sd_chain.proofs.coherence_laws.puts.Goals as goal

pub returns-clause-forced : goal.returns-clause-forced
returns-clause-forced g c = forced-none g.D.Disks.may

pub returns-clause-lost : goal.returns-clause-lost
returns-clause-lost g c = lost-none g.D.Disks.may

pub returns-clause-safe : goal.returns-clause-safe
returns-clause-safe g c = put-is_safe g.D.Disks.may g.E.Disks.may

pub returns-clause-tried : goal.returns-clause-tried
returns-clause-tried g c = try-keeps g.D.Disks.may g.E.Disks.may

pub returns-clause-written : goal.returns-clause-written
returns-clause-written g c = write-keeps g.D.Disks.may g.E.Disks.may

pub returns-clause-synced : goal.returns-clause-synced
returns-clause-synced g c = sync-keeps g.D.Disks.may g.E.Disks.may

pub returns-clause-same : goal.returns-clause-same
returns-clause-same g c = same-lsn g.D.Disks.may

pub returns-clause-unput : goal.returns-clause-unput
returns-clause-unput g c = unput-keeps g.D.Disks.may
