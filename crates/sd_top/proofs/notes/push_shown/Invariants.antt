use Rattle.std.proofs.Common.{◌≡◌, ◌++◌, length}
use Rattle.sd_top.specs.Notes.{shown}
use Rattle.sd_top.proofs.notes.push_shown.Given as goal

abbrev pub invariant-loop-rest : goal.invariant-loop-rest
invariant-loop-rest l = l.out.items ++ shown l.rest ≡ l.fn.out.items ++ shown l.bytes

abbrev pub decreases-loop-rest : goal.decreases-loop-rest
decreases-loop-rest l = length l.rest
