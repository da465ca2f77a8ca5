use Rattle.std.proofs.Common.{subst}
use Rattle.sd_reclock.specs.Locks.{LockTable, stands, wait_for}
use Rattle.sd_reclock.specs.Answers.{IsFree}
use Rattle.sd_reclock.proofs.Joining.{unlocked_free}
use Rattle.sd_reclock.proofs.table.RecordLocks.look.Goals as goal

pub returns-then-is_unlocked-clause-ok : goal.returns-then-is_unlocked-clause-ok
returns-then-is_unlocked-clause-ok c = subst (λ (table : LockTable). IsFree (stands table) c.args.t.now (wait_for c.args.r.now c.args.mode)) c.self.view_is
    (unlocked_free c.self.inside.locks c.args.t.now c.args.r.now c.args.mode (c.is_unlocked.ensures c.if-is_unlocked.true))
