use Rattle.std.proofs.Common.{◌≡◌, take}
use Rattle.sd_oracle.proofs.standing.copy_marks.Given as goal

abbrev pub invariant-loop-mark : goal.invariant-loop-mark
invariant-loop-mark l = l.all.items ≡ take l.mark-index l.marks
