use Rattle.std.proofs.Common.{sym, ◌∙◌, ap}
use Rattle.sd_base.specs.Ids.{same_txn}
use Rattle.sd_base.proofs.Orders.{same-txn-is}
use Rattle.sd_reclock.specs.Locks.{Modes, mode_of}
use Rattle.sd_reclock.proofs.Firsts.{is_first, past, other_row}
use Rattle.sd_reclock.proofs.holders.Holders.mode_of.Goals as goal

pub returns-then-eq : goal.returns-then-eq
unfolding same_txn
returns-then-eq c = sym (is_first c.self.inside.first c.self.inside.others c.args.self.now c.in-Some.u c.args.t.now c.in-Some.mode c.self.view_is c.in-Some.is (same-txn-is c.in-Some.u c.args.t.now (sym c.if-eq.ensures)))

pub returns-else-eq : goal.returns-else-eq
unfolding same_txn
returns-else-eq c = c.mode_of-in-Some.ensures
    ∙ sym (past c.self.inside.first c.self.inside.others c.args.t.now (other_row c.self.inside.first c.in-Some.u c.args.t.now c.in-Some.mode c.in-Some.is (sym c.if-eq.ensures)))
    ∙ ap (λ (holders : Modes). mode_of holders c.args.t.now) c.self.view_is
