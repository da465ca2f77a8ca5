use Rattle.std.proofs.Common.{length}
use Rattle.sd_script.proofs.Steps.{IsUpTo}
use Rattle.sd_script.proofs.script.read_lines.Given as goal

abbrev pub invariant-loop-rest : goal.invariant-loop-rest
invariant-loop-rest l = IsUpTo l.text l.reader l.count l.rest

abbrev pub decreases-loop-rest : goal.decreases-loop-rest
decreases-loop-rest l = length l.rest
