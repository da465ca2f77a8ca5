use Rattle.sd_logrec.proofs.Lengths.{length-spelling}
use Rattle.sd_logrec.proofs.laws.spelling_length.Goals as goal

pub returns : goal.returns
returns c = length-spelling
