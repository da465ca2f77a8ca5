use Rattle.sd_chain.proofs.Blank.{blank-sound, zeros-blank}
use Rattle.sd_chain.proofs.soundness_laws.blank.Goals as goal

pub returns-clause-sound : goal.returns-clause-sound
returns-clause-sound g c = blank-sound g.M.Moment.leaves

pub returns-clause-zeros : goal.returns-clause-zeros
returns-clause-zeros g c = zeros-blank
