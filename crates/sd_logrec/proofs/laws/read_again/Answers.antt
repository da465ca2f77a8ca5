use Rattle.sd_logrec.proofs.Records.{record_again}
use Rattle.sd_logrec.proofs.laws.read_again.Goals as goal

pub returns : goal.returns
returns c = record_again
