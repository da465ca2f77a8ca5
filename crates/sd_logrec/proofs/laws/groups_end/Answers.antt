use Rattle.sd_logrec.proofs.Groups.{groups_end}
use Rattle.sd_logrec.proofs.laws.groups_end.Goals as goal

pub returns : goal.returns
returns c = groups_end
