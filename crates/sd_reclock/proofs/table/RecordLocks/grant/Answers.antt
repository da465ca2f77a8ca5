use Rattle.std.proofs.Common.{◌≡◌, ◌&&◌, ◌∙◌, cond, Option, Some, subst, sym}
use Rattle.sd_base.specs.Ids.{same_txn, same_rid}
use Rattle.sd_base.specs.declared.place.Mode.{Mode}
use Rattle.sd_reclock.specs.Locks.{LockTable, held_in, raised, stands, wait_for}
use Rattle.sd_reclock.specs.Answers.{IsFree}
use Rattle.sd_reclock.proofs.table.RecordLocks.grant.Goals as goal

pub put-requires : goal.put-requires
put-requires c = record { free = subst (λ (table : LockTable). IsFree (stands table) c.args.t.now (wait_for c.args.r.now c.args.mode)) (sym c.self.view_is) c.requires.free }

pub returns-clause-given : goal.returns-clause-given
returns-clause-given c = λ u q. c.make_place.ensures.held u q
    ∙ subst (λ (table : LockTable). held_in c.put.new.self u q ≡ cond {A = Option Mode} (same_txn c.args.t.now u && same_rid c.args.r.now q)
    (Some (raised (held_in table.locks c.args.t.now c.args.r.now) c.args.mode)) (held_in table.locks u q)) c.self.view_is (c.in_ok-put.ensures.put u q)
