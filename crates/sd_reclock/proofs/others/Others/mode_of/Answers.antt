use Rattle.std.proofs.Common.{List, ap, ◌∙◌}
use Rattle.sd_base.specs.declared.ids.TxnId.{TxnId}
use Rattle.sd_base.specs.declared.place.Mode.{Mode}
use Rattle.sd_reclock.specs.Locks.{mode_of}
use Rattle.sd_reclock.proofs.others.Others.mode_of.Goals as goal
use Rattle.sd_base.proofs.Orders.{look-txn}

pub returns : goal.returns
returns c = c.copied.ensures ∙ c.get.ensures.value ∙ look-txn c.args.t.now c.self.inside.modes.entries
    ∙ ap (λ (holders : List (TxnId × Mode)). mode_of holders c.args.t.now) c.self.view_is
