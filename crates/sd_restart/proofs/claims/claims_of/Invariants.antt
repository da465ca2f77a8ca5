use Rattle.std.proofs.Common.{◌≡◌, []}
use Rattle.sd_restart.proofs.Claiming.{LogsAreClaimed}
use Rattle.sd_restart.proofs.claims.claims_of.Given as goal

abbrev pub invariant-loop-i : goal.invariant-loop-i
invariant-loop-i l = LogsAreClaimed l.logs l.locks l.i × (l.locks.waiting ≡ [])
