use Rattle.std.proofs.Common.{ap, ◌∙◌}
use Rattle.sd_state.specs.Parts.{Parts}
use Rattle.sd_one.proofs.Ready.{ready}
use Rattle.sd_one.proofs.ends.turn.Goals as goal

pub returns-then-runs : goal.returns-then-runs
returns-then-runs g c = ready (ap (λ (p : Parts). p.due) c.roll_back.ensures.parts ∙ c.requires.idle)
    (c.roll_back.ensures.good c.requires.m c.requires.good)
