use Rattle.std.proofs.Common.{Bool, ap, ◌∙◌}
use Rattle.std.specs.Map.{lookup}
use Rattle.indexmap.specs.IndexMap.{insert_entry}
use Rattle.sd_base.specs.Ids.{same_txn}
use Rattle.sd_base.specs.declared.ids.TxnId.{TxnId}
use Rattle.sd_txn.proofs.Keyed.{tests, tests_of}
use Rattle.sd_txn.proofs.list.TxnList.insert.Goals as goal

pub returns-clause-before : goal.returns-clause-before
returns-clause-before c = c.in_ok-before.ensures.old ∙ ap (λ (test : TxnId → Bool). lookup test c.self.inside.txns.entries) (tests_of c.args.t.now) ∙ ap (lookup (same_txn c.args.t.now)) c.self.view_is

pub returns-clause-entries : goal.returns-clause-entries
returns-clause-entries c = c.in_ok-before.ensures.entries ∙ ap (λ (eq : TxnId → TxnId → Bool). insert_entry eq c.self.inside.txns.entries c.args.t.now c.new.result) tests
    ∙ (λ i. insert_entry same_txn (c.self.view_is i) c.args.t.now (c.new.ensures i))
