use Rattle.std.proofs.Common.{◌≡◌, ◌*◌, ◌<◌, ◌≤◌, ℕ}
use Rattle.sd_pagelock.specs.Places.{place_at}
use Rattle.sd_pagelock.specs.Rows.{fallen}
use Rattle.sd_pagelock.proofs.table.PlaceTable.fall_in.Given as goal

abbrev pub invariant-loop-n : goal.invariant-loop-n
invariant-loop-n l = record {
  places : (q : ℕ) → 32 * l.group ≤ q → q < l.n → place_at l.self q ≡ fallen l.i (place_at l.fn.self q);
  below : (q : ℕ) → q < 32 * l.group → place_at l.self q ≡ place_at l.fn.self q;
  later : (q : ℕ) → l.n ≤ q → place_at l.self q ≡ place_at l.fn.self q;
}
