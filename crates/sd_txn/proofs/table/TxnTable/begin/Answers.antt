use Rattle.std.proofs.Common.{◌+◌, ap, ◌∙◌}
use Rattle.std.specs.Map.{keys_of, lookup}
use Rattle.sd_base.specs.Ids.{same_txn}
use Rattle.sd_base.specs.declared.ids.TxnId.{TxnId}
use Rattle.sd_txn.specs.Transactions.{Transactions}
use Rattle.sd_txn.proofs.table.TxnTable.begin.Goals as goal

pub returns-clause-runs : goal.returns-clause-runs
returns-clause-runs c =
    let t : TxnId = record { inst = c.self.inside.inst; epoch = c.args.epoch; seq = c.begins_in-begins.result + 1 } in
    ap (λ (table : Transactions). lookup (same_txn t) table.unresolved) c.self-2.view_is ∙ c.in_ok-start.ensures.begun

pub returns-clause-last : goal.returns-clause-last
returns-clause-last c = λ absent. ap (λ (table : Transactions). keys_of table.unresolved) c.self-2.view_is ∙ c.in_ok-start.ensures.last absent

pub returns-clause-again : goal.returns-clause-again
returns-clause-again c = λ there. ap (λ (table : Transactions). keys_of table.unresolved) c.self-2.view_is ∙ c.in_ok-start.ensures.again there

pub returns-clause-others : goal.returns-clause-others
returns-clause-others c = λ u apart.
    ap (λ (table : Transactions). lookup (same_txn u) table.unresolved) c.self-2.view_is ∙ c.in_ok-start.ensures.others u apart

pub returns-clause-counted : goal.returns-clause-counted
returns-clause-counted c =
    let inst = ap (λ (table : Transactions). table.inst) (c.self-2.view_is ∙ c.in_ok-start.ensures.same) in
    λ i. record {
      inst = inst i;
      epoch = c.args.epoch;
      begins = c.begins_in-begins.result + 1;
      unresolved = c.self-2.inside.txns;
    }
