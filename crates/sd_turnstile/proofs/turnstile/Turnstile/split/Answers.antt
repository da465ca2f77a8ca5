use Rattle.sd_turnstile.proofs.Seats.{splits}
use Rattle.std.proofs.Common.{arith}
use Rattle.sd_turnstile.proofs.turnstile.Turnstile.split.Goals as goal

pub split_seat-seat-requires : goal.split_seat-seat-requires
split_seat-seat-requires g c = (
  c.requires.of,
  omega (arith, c.args.self.now.sized.0),
  splits g.V.Shift.history g.V.Shift.stands g.V.Shift.turns _ _ _ _ c.args.pass.now.calm.1 c.requires.parts,
)
