use Rattle.sd_logrec.proofs.Groups.{gate_closed}
use Rattle.sd_logrec.proofs.laws.gate_closed.Goals as goal

pub returns : goal.returns
returns c = gate_closed
