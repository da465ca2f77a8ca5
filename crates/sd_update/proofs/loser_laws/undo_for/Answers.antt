use Rattle.sd_update.proofs.UndoneFor.{undo-for_good}
use Rattle.sd_update.proofs.loser_laws.undo_for.Goals as goal

pub returns : goal.returns
returns g c = record { good = undo-for_good g.M.Moment.leaves }
