use Rattle.sd_update.proofs.UndoneOwn.{undo-good}
use Rattle.sd_update.proofs.UndoneSpelled.{undo-spelled}
use Rattle.sd_update.proofs.UndoneThere.{undo-finds_copy, undo-finds_top}
use Rattle.sd_update.proofs.UndoneTop.{undo-finds_room}
use Rattle.sd_update.proofs.undo_laws.undo.Goals as goal

pub returns-clause-good : goal.returns-clause-good
returns-clause-good g c = undo-good g.M.Moment.leaves

pub returns-clause-room : goal.returns-clause-room
returns-clause-room g c = undo-finds_room g.M.Moment.leaves

pub returns-clause-top : goal.returns-clause-top
returns-clause-top g c = undo-finds_top g.M.Moment.leaves

pub returns-clause-copy : goal.returns-clause-copy
returns-clause-copy g c = undo-finds_copy g.M.Moment.leaves

pub returns-clause-spelled : goal.returns-clause-spelled
returns-clause-spelled g c = undo-spelled g.M.Moment.leaves
