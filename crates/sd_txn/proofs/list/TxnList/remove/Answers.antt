use Rattle.std.proofs.Common.{Bool, List, sym, ap, ◌∙◌}
use Rattle.std.specs.Map.{lookup, remove_entry}
use Rattle.sd_base.specs.Ids.{same_txn}
use Rattle.sd_base.specs.declared.ids.TxnId.{TxnId}
use Rattle.sd_txn.specs.Transactions.{Transaction}
use Rattle.sd_txn.proofs.Keyed.{tests_of}
use Rattle.sd_txn.proofs.list.TxnList.remove.Goals as goal

pub returns-clause-value : goal.returns-clause-value
returns-clause-value c = c.shift_remove.ensures.value ∙ ap (λ (test : TxnId → Bool). lookup test c.self.inside.txns.entries) (tests_of c.args.t.now) ∙ ap (lookup (same_txn c.args.t.now)) c.self.view_is

pub returns-clause-rest : goal.returns-clause-rest
returns-clause-rest c = c.shift_remove.ensures.entries ∙ ap (λ (test : TxnId → Bool). remove_entry test c.self.inside.txns.entries) (tests_of c.args.t.now) ∙ ap (λ (l : List (TxnId × Transaction)). remove_entry (same_txn c.args.t.now) l) c.self.view_is

pub returns-clause-gone : goal.returns-clause-gone
returns-clause-gone c = sym (ap (λ (test : TxnId → Bool). lookup test c.shift_remove.new.self.entries) (tests_of c.args.t.now)) ∙ c.shift_remove.ensures.updates.1
