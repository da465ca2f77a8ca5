use Rattle.std.proofs.Common.{◌≡◌}
use Rattle.sd_restart.proofs.Claiming.{IsClaimed}
use Rattle.sd_restart.proofs.claims.claim.Given as goal

abbrev pub invariant-loop-at : goal.invariant-loop-at
invariant-loop-at l = IsClaimed l.log l.loser l.fn.locks l.locks l.at-index × (l.locks.waiting ≡ l.fn.locks.waiting)
