use Rattle.std.proofs.Common.{◌≡◌, take}
use Rattle.std.specs.Prelude.{None, fold}
use Rattle.sd_recover.specs.Tasks.{later}
use Rattle.sd_recover.proofs.tasks.last_open.Given as goal

abbrev pub invariant-loop-t : goal.invariant-loop-t
invariant-loop-t l = l.last ≡ fold (later l.table) None (take l.t-index l.t-items)
