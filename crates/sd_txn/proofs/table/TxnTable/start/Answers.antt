use Rattle.std.proofs.Common.{[], ◌∷◌, ◌++◌, is_some, ap, sym, subst, ◌∙◌}
use Rattle.std.proofs.lemmas.Bool.{false≢true}
use Rattle.std.specs.Map.{keys_of, lookup}
use Rattle.sd_base.specs.Ids.{same_txn}
use Rattle.sd_txn.specs.Kept.{IsTable}
use Rattle.sd_txn.specs.Transactions.{Transactions, ids, started, txn_at}
use Rattle.sd_txn.proofs.Keyed.{keys-insert_entry, keys-insert_entry_held, lookup-insert_entry, lookup-insert_entry_other}
use Rattle.sd_txn.proofs.Steps.{IsTable-anew, IsTable-new, IsWithin-part}
use Rattle.sd_txn.proofs.table.TxnTable.start.Goals as goal

pub forget-requires : goal.forget-requires
forget-requires c = IsWithin-part c.self.inside.owed c.self.inside.txns c.self.invariant c.args.t.now c.in-Some.before (sym c.in_ok-before.ensures.before ∙ c.in-Some.is)

pub invariant_of-self-in-Some : goal.invariant_of-self-in-Some
invariant_of-self-in-Some c = subst (IsTable c.forget.new.self) (sym c.in_ok-before.ensures.entries)
    (IsTable-anew c.self.inside.owed c.self.inside.txns c.self.invariant c.args.t.now c.in-Some.before (sym c.in_ok-before.ensures.before ∙ c.in-Some.is) c.forget.new.self c.args.state c.forget.ensures)

pub invariant_of-self-in_default : goal.invariant_of-self-in_default
invariant_of-self-in_default c = subst (IsTable c.self.inside.owed) (sym c.in_ok-before.ensures.entries)
    (IsTable-new c.self.inside.owed c.self.inside.txns c.self.invariant c.args.t.now c.args.state (sym c.in_ok-before.ensures.before ∙ c.in_default.is))

pub returns-in-Some-clause-begun : goal.returns-in-Some-clause-begun
returns-in-Some-clause-begun c = ap (lookup (same_txn c.args.t.now)) c.in_ok-before.ensures.entries ∙ lookup-insert_entry c.args.t.now (started c.args.state) c.self.inside.txns

pub returns-in-Some-clause-others : goal.returns-in-Some-clause-others
returns-in-Some-clause-others c = λ u apart. ap (lookup (same_txn u)) c.in_ok-before.ensures.entries ∙ lookup-insert_entry_other c.args.t.now (started c.args.state) u apart c.self.inside.txns
    ∙ ap (λ (table : Transactions). txn_at table u) c.self.view_is

pub returns-in_default-clause-begun : goal.returns-in_default-clause-begun
returns-in_default-clause-begun c = ap (lookup (same_txn c.args.t.now)) c.in_ok-before.ensures.entries ∙ lookup-insert_entry c.args.t.now (started c.args.state) c.self.inside.txns

pub returns-in_default-clause-last : goal.returns-in_default-clause-last
returns-in_default-clause-last c = λ absent. ap keys_of c.in_ok-before.ensures.entries
    ∙ keys-insert_entry c.args.t.now (started c.args.state) c.self.inside.txns (ap (λ (table : Transactions). txn_at table c.args.t.now) c.self.view_is ∙ absent)
    ∙ ap (λ (table : Transactions). ids table ++ c.args.t.now ∷ []) c.self.view_is

pub returns-in_default-clause-others : goal.returns-in_default-clause-others
returns-in_default-clause-others c = λ u apart. ap (lookup (same_txn u)) c.in_ok-before.ensures.entries ∙ lookup-insert_entry_other c.args.t.now (started c.args.state) u apart c.self.inside.txns
    ∙ ap (λ (table : Transactions). txn_at table u) c.self.view_is

pub returns-in-Some-clause-again : goal.returns-in-Some-clause-again
returns-in-Some-clause-again c = λ _. ap keys_of c.in_ok-before.ensures.entries
    ∙ keys-insert_entry_held c.args.t.now (started c.args.state) c.self.inside.txns c.in-Some.before (sym c.in_ok-before.ensures.before ∙ c.in-Some.is) ∙ ap ids c.self.view_is

pub returns-in_default-clause-again : goal.returns-in_default-clause-again
returns-in_default-clause-again c = λ there.
    let none = sym (ap (λ (table : Transactions). txn_at table c.args.t.now) c.self.view_is) ∙ sym c.in_ok-before.ensures.before ∙ c.in_default.is in
    absurd (false≢true (sym (ap is_some none) ∙ there))
