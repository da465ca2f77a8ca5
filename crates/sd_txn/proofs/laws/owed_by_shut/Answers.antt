use Rattle.std.proofs.Common.{refl}
use Rattle.sd_txn.specs.Owing.{bytes_owed, records_owed}
use Rattle.sd_txn.specs.Transactions.{shut}
use Rattle.sd_txn.proofs.Owing.{total-emptied}
use Rattle.sd_txn.proofs.laws.owed_by_shut.Goals as goal

pub returns : goal.returns
returns c = record {
  bytes = λ x. refl;
  records = λ x. refl;
  reserve = λ old new t x. total-emptied bytes_owed old new t x (shut x) refl;
  owed = λ old new t x. total-emptied records_owed old new t x (shut x) refl;
}
