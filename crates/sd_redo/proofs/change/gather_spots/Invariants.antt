use Rattle.std.proofs.Common.{◌≡◌, ◌++◌, map, take}
use Rattle.std.specs.Prelude.{All, filter}
use Rattle.sd_log.specs.Logs.{scanned}
use Rattle.sd_redo.specs.Spots.{IsSpot, found_at}
use Rattle.sd_redo.proofs.OfPage.{on}
use Rattle.sd_redo.proofs.change.gather_spots.Given as goal

abbrev pub invariant-loop-at : goal.invariant-loop-at
invariant-loop-at l =
    All IsSpot l.spots.items
    × (map found_at l.spots.items ≡ map found_at l.fn.spots.items ++ take l.at-index (filter (on l.fn.page) (scanned l.log)))
