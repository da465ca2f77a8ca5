use Rattle.std.proofs.Common.{ap, ◌∙◌}
use Rattle.std.specs.Prelude.{position}
use Rattle.sd_state.specs.Complexes.{parts}
use Rattle.sd_recover.proofs.Nexts.{loose-found, none-loose}
use Rattle.sd_recover.proofs.tasks.first_loose.Goals as goal

pub returns-in-Some-clause-some : goal.returns-in-Some-clause-some
returns-in-Some-clause-some g c = loose-found (parts c.args.c.now) c.requires c.in-Some.at (c.in-Some.ensures ∙ ap (position (λ mark. mark)) c.deref.ensures.value)

pub returns-in-None-clause-none : goal.returns-in-None-clause-none
returns-in-None-clause-none g c = none-loose (parts c.args.c.now) c.requires (c.in-None.ensures ∙ ap (position (λ mark. mark)) c.deref.ensures.value)
