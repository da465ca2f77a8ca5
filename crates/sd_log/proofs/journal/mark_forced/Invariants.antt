use Rattle.std.proofs.Common.{◌≡◌, ◌-◌, ◌++◌, take, drop}
use Rattle.std.specs.Prelude.{map}
use Rattle.sd_log.specs.Marks.{as_forced}
use Rattle.sd_log.proofs.journal.mark_forced.Given as goal

abbrev pub invariant-loop-i : goal.invariant-loop-i
invariant-loop-i l = l.placed.items ≡ take l.from l.fn.placed.items ++ map as_forced (take (l.i - l.from) (drop l.from l.fn.placed.items)) ++ drop l.i l.fn.placed.items
