use Rattle.sd_turnstile.proofs.Looks.{looks}
use Rattle.std.proofs.Common.{arith}
use Rattle.sd_turnstile.proofs.turnstile.Turnstile.look.Goals as goal

pub load-requires : goal.load-requires
load-requires g c = (
  c.requires.of,
  omega (arith, c.args.self.now.sized.0),
  looks g.V.Shift.history g.V.Shift.stands g.V.Shift.turns _ _ _ _ _ c.requires.waits.0 c.requires.waits.1 c.requires.inside,
)
