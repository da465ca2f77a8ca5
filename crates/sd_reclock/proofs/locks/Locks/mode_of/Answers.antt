use Rattle.std.proofs.Common.{Option, ap, ◌∙◌}
use Rattle.sd_reclock.specs.Locks.{Modes, mode_among}
use Rattle.sd_reclock.proofs.locks.Locks.mode_of.Goals as goal

pub returns-in-Some : goal.returns-in-Some
returns-in-Some c = c.mode_of.ensures ∙ ap (λ (o : Option Modes). mode_among o c.args.t.now) c.in-Some.ensures.found

pub returns-in-None : goal.returns-in-None
returns-in-None c = ap (λ (o : Option Modes). mode_among o c.args.t.now) c.in-None.ensures.found
