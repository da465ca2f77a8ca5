use Rattle.sd_txn.proofs.Owing.{bytes_owed-popped, records_owed-popped}
use Rattle.sd_txn.proofs.laws.owed_by_pop.Goals as goal

pub returns : goal.returns
returns c = record { bytes = bytes_owed-popped; records = records_owed-popped }
