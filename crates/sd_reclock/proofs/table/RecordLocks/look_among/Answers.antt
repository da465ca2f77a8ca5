use Rattle.std.proofs.Common.{subst}
use Rattle.sd_base.specs.Waits.{IsBlocked, IsDeadlock}
use Rattle.sd_reclock.specs.Locks.{LockTable, stands, waits, wait_for}
use Rattle.sd_reclock.specs.Answers.{IsFree}
use Rattle.sd_reclock.proofs.table.RecordLocks.look_among.Goals as goal

pub returns-in_default-clause-ok : goal.returns-in_default-clause-ok
returns-in_default-clause-ok c = subst (λ (table : LockTable). IsFree (stands table) c.args.t.now (wait_for c.args.r.now c.args.mode)) c.self.view_is c.in_default.ensures.stands

pub returns-in_err-cycle-clause-free : goal.returns-in_err-cycle-clause-free
returns-in_err-cycle-clause-free c = λ free. absurd (free c.in-Some.by (subst (λ (table : LockTable). stands table c.args.t.now (wait_for c.args.r.now c.args.mode) c.in-Some.by) c.self.view_is c.in-Some.ensures.stands))

pub returns-in-Some-2-clause-free : goal.returns-in-Some-2-clause-free
returns-in-Some-2-clause-free c = λ free. absurd (free c.in-Some.by (subst (λ (table : LockTable). stands table c.args.t.now (wait_for c.args.r.now c.args.mode) c.in-Some.by) c.self.view_is c.in-Some.ensures.stands))

pub returns-in-None-clause-free : goal.returns-in-None-clause-free
returns-in-None-clause-free c = λ free. absurd (free c.in-Some.by (subst (λ (table : LockTable). stands table c.args.t.now (wait_for c.args.r.now c.args.mode) c.in-Some.by) c.self.view_is c.in-Some.ensures.stands))

pub returns-in-Some-2-clause-refused : goal.returns-in-Some-2-clause-refused
returns-in-Some-2-clause-refused c = subst (λ (table : LockTable). IsDeadlock (stands table) (waits table) c.args.t.now (wait_for c.args.r.now c.args.mode) c.in-Some-2.cycle) c.self.view_is (rw c.in-Some-2.is at c.in_ok-cycle.ensures.found)

pub returns-in-None-clause-refused : goal.returns-in-None-clause-refused
returns-in-None-clause-refused c = subst (λ (table : LockTable). IsBlocked (stands table) (waits table) c.args.t.now (wait_for c.args.r.now c.args.mode) c.in-Some.by) c.self.view_is
    (record { obstructs = c.in-Some.ensures.stands; lowest = c.in-Some.ensures.lowest; free = rw c.in-None.is at c.in_ok-cycle.ensures.none })
