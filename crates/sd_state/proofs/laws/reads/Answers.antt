use Rattle.sd_state.proofs.WorkingTakes.{read-good}
use Rattle.sd_state.proofs.laws.reads.Goals as goal

pub returns : goal.returns
returns g c = read-good g.M.Moment.leaves
