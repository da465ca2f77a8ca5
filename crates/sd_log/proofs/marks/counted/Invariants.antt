use Rattle.std.proofs.Common.{◌≡◌, ◌+◌, drop}
use Rattle.sd_log.specs.Marks.{counted}
use Rattle.sd_log.proofs.marks.counted.Given as goal

abbrev pub invariant-loop-mark : goal.invariant-loop-mark
invariant-loop-mark l = l.count + counted (drop l.mark-index l.marks) ≡ counted l.marks
