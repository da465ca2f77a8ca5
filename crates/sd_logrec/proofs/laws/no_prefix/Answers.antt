use Rattle.sd_logrec.proofs.Records.{no_prefix}
use Rattle.sd_logrec.proofs.laws.no_prefix.Goals as goal

pub returns : goal.returns
returns c = no_prefix
