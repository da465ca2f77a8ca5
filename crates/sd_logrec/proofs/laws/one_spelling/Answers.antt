use Rattle.sd_logrec.proofs.Records.{one_spelling}
use Rattle.sd_logrec.proofs.laws.one_spelling.Goals as goal

pub returns : goal.returns
returns c = one_spelling
