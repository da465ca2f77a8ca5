use Rattle.sd_update.proofs.Changed.{change-keeps_good}
use Rattle.sd_update.proofs.laws.change.Goals as goal

pub returns : goal.returns
returns g c = record { good = change-keeps_good g.M.Moment.leaves }
