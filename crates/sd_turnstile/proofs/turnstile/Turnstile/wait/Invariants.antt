use Rattle.std.proofs.Common.{◌≡◌}
use Rattle.sd_turnstile.proofs.turnstile.Turnstile.wait.Given as goal

-- the seat is as it was
abbrev pub invariant-loop : goal.invariant-loop
invariant-loop g l = (l.seat.table_id ≡ l.fn.seat.table_id) × (l.seat.id ≡ l.fn.seat.id) × (l.seat.me ≡ l.fn.seat.me)
