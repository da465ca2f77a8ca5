use Rattle.std.proofs.Common.{sym, ap, subst, ◌∙◌}
use Rattle.std.specs.Map.{set_value}
use Rattle.std.specs.Option.{option_copied_mut}
use Rattle.sd_base.specs.Ids.{same_txn}
use Rattle.sd_txn.specs.Kept.{IsTable}
use Rattle.sd_txn.specs.Transactions.{Transaction, shut}
use Rattle.sd_txn.specs.contracts.table.TxnTable.{the_view}
use Rattle.sd_txn.proofs.Keyed.{changed, sets}
use Rattle.sd_txn.proofs.Steps.{IsTable-shut, IsWithin-part}
use Rattle.sd_txn.proofs.table.TxnTable.shut.Goals as goal

pub forget-requires : goal.forget-requires
forget-requires c =
    let at = sym c.get_mut.ensures.value ∙ ap option_copied_mut c.unwrap-txn.ensures in
    IsWithin-part c.self.inside.owed c.self.inside.txns c.self.invariant c.args.t.now c.unwrap-txn.result.now at

pub invariant_of-self : goal.invariant_of-self
invariant_of-self c =
    let at = sym c.get_mut.ensures.value ∙ ap option_copied_mut c.unwrap-txn.ensures in
    subst (IsTable c.forget.new.self) (sym (c.get_mut.follows.holds c.shut.new.self ∙ ap (λ (x : Transaction). set_value (same_txn c.args.t.now) c.self.inside.txns x) c.shut.ensures))
    (IsTable-shut c.self.inside.owed c.self.inside.txns c.self.invariant c.args.t.now c.unwrap-txn.result.now at c.forget.new.self c.forget.ensures)

pub returns : goal.returns
returns c =
    let at = sym c.get_mut.ensures.value ∙ ap option_copied_mut c.unwrap-txn.ensures in
    let s = sets (the_view c.self.inside) c.args.self.now c.self.view_is (c.get_mut.follows.lender c.shut.new.self) c.args.t.now c.unwrap-txn.result.now c.shut.new.self (c.get_mut.follows.holds c.shut.new.self) at in
    record { changed = changed shut _ _ _ _ _ s c.shut.ensures; others = s.others; order = s.order }
