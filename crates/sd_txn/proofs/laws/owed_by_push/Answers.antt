use Rattle.sd_txn.proofs.Owing.{bytes_owed-pushed, records_owed-pushed}
use Rattle.sd_txn.proofs.laws.owed_by_push.Goals as goal

pub returns : goal.returns
returns c = record { bytes = bytes_owed-pushed; records = records_owed-pushed }
