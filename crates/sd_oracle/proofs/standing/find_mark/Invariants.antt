use Rattle.std.proofs.Common.{◌≡◌, drop}
use Rattle.sd_model.specs.Changes.{mark_of}
use Rattle.sd_oracle.proofs.standing.find_mark.Given as goal

abbrev pub invariant-loop-mark : goal.invariant-loop-mark
invariant-loop-mark l = mark_of l.name (drop l.mark-index l.marks) ≡ mark_of l.name l.marks
