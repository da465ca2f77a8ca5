use Rattle.sd_txn.specs.Owing.{bytes_owed, records_owed}
use Rattle.sd_txn.proofs.Owing.{total-replaced}
use Rattle.sd_txn.proofs.laws.owed_by_change.Goals as goal

pub returns : goal.returns
returns c = record { reserve = total-replaced bytes_owed; owed = total-replaced records_owed }
