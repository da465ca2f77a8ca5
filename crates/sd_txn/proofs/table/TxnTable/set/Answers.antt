use Rattle.std.proofs.Common.{sym, ap, subst, ◌∙◌}
use Rattle.std.specs.Map.{set_value}
use Rattle.std.specs.Option.{option_copied_mut}
use Rattle.sd_base.specs.Ids.{same_txn}
use Rattle.sd_txn.specs.Kept.{IsTable}
use Rattle.sd_txn.specs.Transactions.{Transaction, with_state}
use Rattle.sd_txn.specs.contracts.table.TxnTable.{the_view}
use Rattle.sd_txn.proofs.Keyed.{changed, sets}
use Rattle.sd_txn.proofs.Steps.{IsTable-with_state}
use Rattle.sd_txn.proofs.table.TxnTable.set.Goals as goal

pub invariant_of-self : goal.invariant_of-self
invariant_of-self c =
    let at = sym c.get_mut.ensures.value ∙ ap option_copied_mut c.unwrap.ensures in
    subst (IsTable c.self.inside.owed) (sym (c.get_mut.follows.holds c.set.new.self ∙ ap (λ (x : Transaction). set_value (same_txn c.args.t.now) c.self.inside.txns x) c.set.ensures))
    (IsTable-with_state c.self.inside.owed c.self.inside.txns c.self.invariant c.args.t.now c.unwrap.result.now at c.args.state)

pub returns : goal.returns
returns c =
    let at = sym c.get_mut.ensures.value ∙ ap option_copied_mut c.unwrap.ensures in
    let s = sets (the_view c.self.inside) c.args.self.now c.self.view_is (c.get_mut.follows.lender c.set.new.self) c.args.t.now c.unwrap.result.now c.set.new.self (c.get_mut.follows.holds c.set.new.self) at in
    record { changed = changed (with_state c.args.state) _ _ _ _ _ s c.set.ensures; others = s.others; order = s.order }
