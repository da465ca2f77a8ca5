use Rattle.std.proofs.Common.{◌≡◌}
use Rattle.sd_log.specs.Logs.{last_lsn, scanned}
use Rattle.sd_state.specs.Complexes.{parts}
use Rattle.sd_state.specs.Parts.{log_at}
use Rattle.sd_state.specs.Sums.{most_to}
use Rattle.sd_state.proofs.complex.Complex.last_lsn.Given as goal

abbrev pub invariant-loop-n : goal.invariant-loop-n
invariant-loop-n g l = l.last ≡ most_to (λ j. last_lsn (scanned (log_at (parts l.self) j))) l.n
