use Rattle.sd_turnstile.proofs.Seats.{joins}
use Rattle.std.proofs.Common.{arith}
use Rattle.sd_turnstile.proofs.turnstile.Turnstile.join.Goals as goal

pub join_seat-requires : goal.join_seat-requires
join_seat-requires g c = (
  c.requires.of.0,
  c.requires.of.1,
  c.args.other.calm.0,
  omega (arith, c.args.self.now.sized.0),
  joins g.V.Shift.history g.V.Shift.stands g.V.Shift.turns _ _ _ _ _ _ c.args.pass.now.calm.1 c.args.other.calm.1,
)
