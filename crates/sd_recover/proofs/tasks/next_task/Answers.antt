use Rattle.std.proofs.Common.{subst}
use Rattle.sd_txn.specs.Transactions.{Transactions}
use Rattle.sd_recover.specs.Tasks.{IsFirstToEnd, IsRowTask}
use Rattle.sd_recover.proofs.Nexts.{first-to-end}
use Rattle.sd_recover.proofs.tasks.next_task.Goals as goal

pub returns-clause-first : goal.returns-clause-first
returns-clause-first g c = λ t is.
    subst (λ (table : Transactions). IsFirstToEnd table t) c.txns.ensures
    (first-to-end c.txns.result.now t (subst (IsRowTask c.txns.result.now) is c.row_task.ensures).2)
