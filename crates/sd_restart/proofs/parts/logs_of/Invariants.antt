use Rattle.std.proofs.Common.{◌≡◌, ◌++◌}
use Rattle.sd_restart.proofs.parts.logs_of.Given as goal

abbrev pub invariant-loop-log : goal.invariant-loop-log
invariant-loop-log l = (l.logs.items ≡ l.yielded) × (l.yielded ++ l.log-iterator.rest.items ≡ l.fn.read.items)
