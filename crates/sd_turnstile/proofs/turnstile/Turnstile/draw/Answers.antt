use Rattle.sd_turnstile.proofs.Draws.{draws}
use Rattle.std.proofs.Common.{arith}
use Rattle.sd_turnstile.proofs.turnstile.Turnstile.draw.Goals as goal

pub fetch_add-requires : goal.fetch_add-requires
fetch_add-requires g c = (
  c.requires.of,
  omega (arith, c.args.self.now.sized.0),
  draws g.V.Shift.history g.V.Shift.stands g.V.Shift.turns _ _ _ _ _ c.requires.calm.1 c.requires.part,
)
