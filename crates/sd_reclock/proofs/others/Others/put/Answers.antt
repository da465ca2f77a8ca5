use Rattle.std.proofs.Common.{◌≡◌, List, Option, Some, subst, cond, ap, ◌∙◌}
use Rattle.sd_base.specs.declared.ids.TxnId.{TxnId}
use Rattle.sd_base.specs.declared.place.Mode.{Mode}
use Rattle.sd_base.specs.Ids.{same_txn}
use Rattle.sd_reclock.specs.Locks.{mode_of, raised}
use Rattle.sd_reclock.proofs.others.Others.put.Goals as goal
use Rattle.sd_base.proofs.Orders.{put-txn}

pub returns-clause-put : goal.returns-clause-put
returns-clause-put c = λ u. subst (λ (old : List (TxnId × Mode)). mode_of c.insert.new.self.entries u ≡ cond {A = Option Mode} (same_txn c.args.t.now u) (Some c.raise-mode.result) (mode_of old u)) c.self.view_is
    (put-txn c.args.t.now u (Some c.raise-mode.result) c.self.inside.modes.entries c.insert.new.self.entries (c.in_ok-insert.ensures.updates.0 u))
    ∙ ap (λ (mode : Mode). cond {A = Option Mode} (same_txn c.args.t.now u) (Some mode) (mode_of c.args.self.now u)) (c.raise-mode.ensures ∙ ap (λ (had : Option Mode). raised had c.args.mode) c.mode_of.ensures)
