use Rattle.std.proofs.Common.{◌≡◌, ◌++◌, map}
use Rattle.std.specs.List.{AllByRecursion}
use Rattle.sd_ckpt.specs.Rows.{IsInRange, flat_row}
use Rattle.sd_ckpt.proofs.tables.in_order.Given as goal

abbrev pub invariant-loop-row : goal.invariant-loop-row
invariant-loop-row l = (l.rows.items ++ map flat_row l.row-iterator ≡ map flat_row l.fn.spans.entries) × AllByRecursion IsInRange l.rows.items
