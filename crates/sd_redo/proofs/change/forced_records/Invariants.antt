use Rattle.std.proofs.Common.{◌≡◌, map, take}
use Rattle.std.specs.Prelude.{filter}
use Rattle.sd_redo.specs.Spots.{found_at}
use Rattle.sd_redo.proofs.change.forced_records.Given as goal

abbrev pub invariant-loop-spot : goal.invariant-loop-spot
invariant-loop-spot l = l.records.items ≡ filter (λ x. x.forced) (map found_at (take l.spot-index l.spots))
