use Rattle.std.proofs.Common.{ap, ◌∙◌}
use Rattle.sd_base.specs.Ids.{same_txn}
use Rattle.sd_txn.specs.Transactions.{Transactions, txn_at}
use Rattle.sd_txn.proofs.Steps.{marked-lookup}
use Rattle.sd_txn.proofs.table.TxnTable.keeps.Goals as goal

pub returns-clause-marks : goal.returns-clause-marks
returns-clause-marks c = λ t x at. marked-lookup (same_txn t) c.self.inside.txns x c.self.invariant.marked (ap (λ (table : Transactions). txn_at table t) c.self.view_is ∙ at)
