use Rattle.sd_logrec.proofs.Groups.{master_in_front}
use Rattle.sd_logrec.proofs.laws.master_in_front.Goals as goal

pub returns : goal.returns
returns c = master_in_front
