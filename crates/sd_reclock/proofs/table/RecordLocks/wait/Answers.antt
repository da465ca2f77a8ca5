use Rattle.std.proofs.Common.{◌≡◌, Some, subst}
use Rattle.sd_base.specs.Waits.{with_wait}
use Rattle.sd_reclock.specs.Waiting.{waits_in}
use Rattle.sd_reclock.specs.Locks.{LockTable, waits, wait_for}
use Rattle.sd_reclock.proofs.Noting.{waits_change}
use Rattle.sd_reclock.proofs.table.RecordLocks.wait.Goals as goal
use Rattle.sd_base.proofs.Orders.{put-txn}

pub returns-clause-waits : goal.returns-clause-waits
returns-clause-waits c = λ u. subst (λ (table : LockTable). waits_in c.insert.new.self.entries u ≡ with_wait c.args.t.now (Some (wait_for c.args.r.now c.args.mode)) (waits table) u) c.self.view_is
    (waits_change c.self.inside.waits.entries c.insert.new.self.entries c.args.t.now (Some (record { rid = c.args.r.now; mode = c.args.mode }))
    (λ q. put-txn c.args.t.now q (Some (record { rid = c.args.r.now; mode = c.args.mode })) c.self.inside.waits.entries c.insert.new.self.entries (c.in_ok-insert.ensures.updates.0 q)) u)
