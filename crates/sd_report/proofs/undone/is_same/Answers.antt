use Rattle.sd_base.specs.Ids.{same_txn}
use Rattle.sd_report.proofs.undone.is_same.Goals as goal

pub returns : goal.returns
unfolding same_txn
returns c = c.eq.ensures
