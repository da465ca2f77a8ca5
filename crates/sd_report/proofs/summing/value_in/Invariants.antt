use Rattle.std.proofs.Common.{◌≡◌, take}
use Rattle.std.specs.Prelude.{None}
use Rattle.std.specs.Map.{lookup}
use Rattle.sd_base.specs.Ids.{same_rid}
use Rattle.sd_report.proofs.summing.value_in.Given as goal

abbrev pub invariant-loop-at : goal.invariant-loop-at
invariant-loop-at l = lookup (same_rid l.rid) (take l.at-index l.rows) ≡ None
