use Rattle.std.proofs.Common.{◌++◌, length, take}
use Rattle.std.specs.List.{flat_map}
use Rattle.sd_logrec.specs.Spelling.{two, span}
use Rattle.sd_logrec.specs.Writing.{Appends}
use Rattle.sd_logrec.proofs.put.put_spans.Given as goal

abbrev pub invariant-loop-item : goal.invariant-loop-item
invariant-loop-item l = Appends l.fn.out l.out (two (length l.spans) ++ flat_map span (take l.item-index l.spans))
