use Rattle.sd_world.proofs.Keeping.{moves-form}
use Rattle.sd_world.proofs.Leading.{run-form}
use Rattle.sd_world.proofs.laws.forms.Goals as goal

pub returns-clause-moves : goal.returns-clause-moves
returns-clause-moves c = moves-form

pub returns-clause-run : goal.returns-clause-run
returns-clause-run c = run-form
