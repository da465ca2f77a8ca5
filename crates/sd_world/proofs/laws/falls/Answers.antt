use Rattle.sd_world.proofs.Forms.{fallen-none, others-hold_on}
use Rattle.sd_world.proofs.laws.falls.Goals as goal

pub returns-clause-none : goal.returns-clause-none
returns-clause-none c = fallen-none

pub returns-clause-others : goal.returns-clause-others
returns-clause-others c = others-hold_on
