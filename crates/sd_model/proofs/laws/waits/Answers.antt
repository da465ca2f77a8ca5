use Rattle.sd_model.proofs.WaitAnswers.{blocked-locked, deadlock-locked, not-both}
use Rattle.sd_model.proofs.laws.waits.Goals as goal

pub returns : goal.returns
returns c = record { blocked = blocked-locked; deadlock = deadlock-locked; either = not-both }
