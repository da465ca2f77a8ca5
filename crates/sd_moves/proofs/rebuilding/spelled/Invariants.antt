use Rattle.std.proofs.Common.{take}
use Rattle.std.specs.Prelude.{All}
use Rattle.sd_log.specs.Logs.{AreSpelled, scanned}
use Rattle.sd_moves.proofs.rebuilding.spelled.Given as goal

abbrev pub invariant-loop-log : goal.invariant-loop-log
invariant-loop-log l = All (λ log. AreSpelled (scanned log)) (take l.log-index l.logs)
