use Rattle.std.proofs.Common.{◌≡◌, take}
use Rattle.sd_base.proofs.sequence.copy_all.Given as goal

abbrev pub invariant-loop-item : goal.invariant-loop-item
invariant-loop-item g l = l.copied.items ≡ take l.item-index l.item-items
