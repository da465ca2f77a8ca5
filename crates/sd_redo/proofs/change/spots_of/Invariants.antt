use Rattle.std.proofs.Common.{◌≡◌, ◌+◌, map}
use Rattle.std.specs.Prelude.{All, filter}
use Rattle.sd_redo.specs.Changes.{in_turn, is_of, placed_in}
use Rattle.sd_redo.specs.Spots.{IsSpot, found_at}
use Rattle.sd_redo.proofs.change.spots_of.Given as goal

abbrev pub invariant-loop-log : goal.invariant-loop-log
invariant-loop-log l =
    All IsSpot l.spots.items × (map found_at l.spots.items ≡ filter (is_of l.page) (in_turn (placed_in l.logs) (l.log-index + 1)))
