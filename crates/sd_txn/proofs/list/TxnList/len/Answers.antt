use Rattle.std.proofs.Common.{Bool, List, subst}
use Rattle.std.specs.List.{IsDistinct}
use Rattle.std.specs.Map.{keys_of}
use Rattle.sd_base.specs.Ids.{same_txn}
use Rattle.sd_base.specs.declared.ids.TxnId.{TxnId}
use Rattle.sd_txn.specs.Transactions.{Transaction}
use Rattle.sd_txn.proofs.Keyed.{tests}
use Rattle.sd_txn.proofs.list.TxnList.len.Goals as goal

pub returns-clause-once : goal.returns-clause-once
returns-clause-once c = subst (λ (l : List (TxnId × Transaction)). IsDistinct same_txn (keys_of l)) c.self.view_is
    (subst (λ (eq : TxnId → TxnId → Bool). IsDistinct eq (keys_of c.self.inside.txns.entries)) tests c.len.ensures.unique)
