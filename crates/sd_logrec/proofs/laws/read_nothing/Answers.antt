use Rattle.sd_logrec.proofs.Groups.{read_nothing}
use Rattle.sd_logrec.proofs.laws.read_nothing.Goals as goal

pub returns : goal.returns
returns c = read_nothing
