use Rattle.std.proofs.Common.{◌≡◌, ◌*◌, ◌<◌, ◌≤◌, ℕ}
use Rattle.sd_pagelock.specs.Places.{place_at}
use Rattle.sd_pagelock.specs.Rows.{fallen}
use Rattle.sd_pagelock.proofs.table.PlaceTable.fall.Given as goal

abbrev pub invariant-loop-group : goal.invariant-loop-group
invariant-loop-group l = record {
  places : (q : ℕ) → q < 32 * l.group → place_at l.self q ≡ fallen l.i (place_at l.fn.self q);
  later : (q : ℕ) → 32 * l.group ≤ q → place_at l.self q ≡ place_at l.fn.self q;
}
