use Rattle.std.proofs.Common.{◌≡◌, ◌-◌}
use Rattle.sd_log.proofs.Lowered.{written_to}
use Rattle.sd_log.proofs.pages.lower.Given as goal

abbrev pub invariant-loop-end : goal.invariant-loop-end
invariant-loop-end l = l.ends ≡ written_to (λ n. n - l.gone) l.end-index l.fn.ends
