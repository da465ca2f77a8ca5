use Rattle.std.proofs.Common.{◌≡◌, None, subst}
use Rattle.sd_base.specs.Waits.{with_wait}
use Rattle.sd_reclock.specs.Waiting.{waits_in}
use Rattle.sd_reclock.specs.Locks.{LockTable, waits}
use Rattle.sd_reclock.proofs.Noting.{waits_change}
use Rattle.sd_reclock.proofs.table.RecordLocks.calm.Goals as goal
use Rattle.sd_base.proofs.Orders.{put-txn}

pub returns-clause-waits : goal.returns-clause-waits
returns-clause-waits c = λ u. subst (λ (table : LockTable). waits_in c.remove.new.self.entries u ≡ with_wait c.args.t.now None (waits table) u) c.self.view_is
    (waits_change c.self.inside.waits.entries c.remove.new.self.entries c.args.t.now None
    (λ q. put-txn c.args.t.now q None c.self.inside.waits.entries c.remove.new.self.entries (c.remove.ensures.updates.0 q)) u)
