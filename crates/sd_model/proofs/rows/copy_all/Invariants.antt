use Rattle.std.proofs.Common.{◌≡◌, take}
use Rattle.sd_model.proofs.rows.copy_all.Given as goal

abbrev pub invariant-loop-row : goal.invariant-loop-row
invariant-loop-row l = l.copied.items ≡ take l.row-index l.row-items
