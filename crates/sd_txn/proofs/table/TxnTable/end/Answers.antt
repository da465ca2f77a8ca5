use Rattle.std.proofs.Common.{sym, ap, subst, ◌∙◌}
use Rattle.std.specs.Map.{lookup}
use Rattle.sd_base.specs.Ids.{same_txn}
use Rattle.sd_txn.specs.Kept.{IsTable}
use Rattle.sd_txn.specs.Transactions.{Transactions, txn_at}
use Rattle.sd_txn.proofs.Keyed.{lookup-remove_entry_other, remove_entry-absent}
use Rattle.sd_txn.proofs.Steps.{IsTable-removed, IsWithin-part}
use Rattle.sd_txn.proofs.table.TxnTable.end.Goals as goal

pub forget-requires : goal.forget-requires
forget-requires c = IsWithin-part c.self.inside.owed c.self.inside.txns c.self.invariant c.args.t.now c.in-Some.txn (sym c.in-Some.ensures.value)

pub invariant_of-self : goal.invariant_of-self
invariant_of-self c = subst (IsTable c.forget.new.self) (sym c.in-Some.ensures.rest)
    (IsTable-removed c.self.inside.owed c.self.inside.txns c.self.invariant c.args.t.now c.in-Some.txn (sym c.in-Some.ensures.value) c.forget.new.self c.forget.ensures)

pub invariant_of-self-in_default : goal.invariant_of-self-in_default
invariant_of-self-in_default c = subst (IsTable c.self.inside.owed) (sym (remove_entry-absent c.args.t.now c.self.inside.txns (sym c.remove.ensures.value ∙ c.in_default.is)) ∙ sym c.remove.ensures.rest) c.self.invariant

pub returns-in-Some-clause-others : goal.returns-in-Some-clause-others
returns-in-Some-clause-others c = λ u apart. ap (lookup (same_txn u)) c.remove.ensures.rest ∙ lookup-remove_entry_other c.args.t.now u apart c.self.inside.txns ∙ ap (λ (table : Transactions). txn_at table u) c.self.view_is

pub returns-in_default-clause-others : goal.returns-in_default-clause-others
returns-in_default-clause-others c = λ u apart. ap (lookup (same_txn u)) c.remove.ensures.rest ∙ lookup-remove_entry_other c.args.t.now u apart c.self.inside.txns ∙ ap (λ (table : Transactions). txn_at table u) c.self.view_is
