use Rattle.std.proofs.Common.{◌≡◌, take}
use Rattle.sd_restart.proofs.Claiming.{AreClaimed}
use Rattle.sd_restart.proofs.claims.claim_all.Given as goal

abbrev pub invariant-loop-loser : goal.invariant-loop-loser
invariant-loop-loser l = AreClaimed l.log (take l.loser-index l.loser-items) l.fn.locks l.locks × (l.locks.waiting ≡ l.fn.locks.waiting)
