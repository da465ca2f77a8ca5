use Rattle.std.proofs.Common.{ap, ◌∙◌}
use Rattle.sd_state.specs.Parts.{Parts}
use Rattle.sd_one.proofs.Ready.{ready}
use Rattle.sd_one.proofs.work.begin.Goals as goal

pub returns : goal.returns
returns g c = ready (ap (λ (p : Parts). p.due) c.in_ok-t.ensures.parts ∙ c.requires.idle)
    (c.in_ok-t.ensures.good c.requires.m c.requires.good).1
