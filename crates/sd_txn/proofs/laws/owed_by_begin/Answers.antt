use Rattle.std.proofs.Common.{refl}
use Rattle.sd_txn.specs.Owing.{bytes_owed, records_owed}
use Rattle.sd_txn.specs.Transactions.{started}
use Rattle.sd_txn.proofs.Owing.{total-begun}
use Rattle.sd_txn.proofs.laws.owed_by_begin.Goals as goal

pub returns : goal.returns
returns c = record {
  reserve = λ old new t state. total-begun bytes_owed old new t (started state) refl;
  owed = λ old new t state. total-begun records_owed old new t (started state) refl;
}
