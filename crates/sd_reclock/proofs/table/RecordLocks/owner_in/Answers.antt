use Rattle.std.proofs.Common.{subst}
use Rattle.sd_reclock.specs.Locks.{LockTable, IsLowestOwner}
use Rattle.sd_reclock.proofs.table.RecordLocks.owner_in.Goals as goal

pub returns : goal.returns
returns c = record { lowest = subst (λ (table : LockTable). IsLowestOwner table.locks c.args.p c.owner_in.result) c.self.view_is c.owner_in.ensures }
