use Rattle.std.proofs.Common.{ap, ◌∙◌, refl}
use Rattle.sd_state.specs.Parts.{Parts}
use Rattle.sd_one.proofs.Ready.{ready}
use Rattle.sd_one.proofs.ends.seal.Goals as goal

pub seal_end-requires-clause-numbered : goal.seal_end-requires-clause-numbered
seal_end-requires-clause-numbered g c = c.if-not-may_end.ensures.numbered refl

pub returns : goal.returns
returns g c = ready (ap (λ (p : Parts). p.due) c.in_ok-seal_end.ensures.parts.is ∙ c.requires.idle)
    (c.seal_end.ensures.good c.requires.m c.requires.good)
