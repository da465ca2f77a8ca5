use Rattle.sd_logrec.proofs.Groups.{group_behind}
use Rattle.sd_logrec.proofs.laws.group_behind.Goals as goal

pub returns : goal.returns
returns c = group_behind
