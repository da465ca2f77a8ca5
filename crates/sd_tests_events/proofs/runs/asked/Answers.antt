use Rattle.std.proofs.Common.{subst}
use Rattle.std.specs.Prelude.{IfSome, Option}
use Rattle.sd_model.specs.declared.event.Event.{Event}
use Rattle.sd_hall.specs.Served.{IsServed}
use Rattle.sd_tests_events.proofs.runs.asked.Goals as goal

pub returns : goal.returns
returns c = subst (λ (o : Option Event). IfSome o (λ x. IsServed x)) c.in-Some.is c.in_ok-made.ensures
