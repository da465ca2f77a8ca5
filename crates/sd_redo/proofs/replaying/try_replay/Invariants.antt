use Rattle.std.proofs.Common.{◌≡◌}
use Rattle.sd_redo.proofs.Replays.{Replayed}
use Rattle.sd_redo.proofs.replaying.try_replay.Given as goal

abbrev pub invariant-loop-found : goal.invariant-loop-found
invariant-loop-found l = (l.floor ≡ l.fn.image.lsn) × Replayed l.fn.image l.image l.chain l.found-index
