use Rattle.std.proofs.Common.{◌++◌, length, take}
use Rattle.std.specs.List.{flat_map}
use Rattle.sd_logrec.specs.Spelling.{two, changed}
use Rattle.sd_logrec.specs.Writing.{Appends}
use Rattle.sd_logrec.proofs.put.put_recs.Given as goal

abbrev pub invariant-loop-item : goal.invariant-loop-item
invariant-loop-item l = Appends l.fn.out l.out (two (length l.recs) ++ flat_map changed (take l.item-index l.recs))
