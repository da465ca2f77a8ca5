use Rattle.sd_base.specs.Ids.{same_txn}
use Rattle.sd_txn.specs.Owing.{bytes_owed, records_owed}
use Rattle.sd_txn.proofs.Sums.{total-remove_entry}
use Rattle.sd_txn.proofs.laws.owed_by_end.Goals as goal

pub returns : goal.returns
returns c = record {
  reserve = λ old t x. total-remove_entry bytes_owed (same_txn t) x old.unresolved;
  owed = λ old t x. total-remove_entry records_owed (same_txn t) x old.unresolved;
}
