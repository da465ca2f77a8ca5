use Rattle.std.proofs.Common.{◌≡◌, take}
use Rattle.std.specs.Prelude.{None, fold}
use Rattle.sd_recover.specs.Tasks.{lower}
use Rattle.sd_recover.proofs.tasks.to_end.Given as goal

abbrev pub invariant-loop-t : goal.invariant-loop-t
invariant-loop-t l = l.first ≡ fold (lower l.table) None (take l.t-index l.t-items)
