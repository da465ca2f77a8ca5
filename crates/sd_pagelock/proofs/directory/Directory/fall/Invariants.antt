use Rattle.std.proofs.Common.{◌≡◌, ◌*◌, ◌<◌, ◌≤◌, ℕ, cond, None, Option}
use Rattle.sd_pagelock.specs.Places.{receives}
use Rattle.sd_pagelock.specs.Directory.{entry_at, moving_image_at}
use Rattle.sd_pagelock.proofs.directory.Directory.fall.Given as goal

abbrev pub invariant-loop-group : goal.invariant-loop-group
invariant-loop-group g l = record {
  images : (q : ℕ) → q < 32 * l.group → moving_image_at l.self q ≡ cond {A = Option g.row.I.Denot} (receives (entry_at l.fn.self q) l.i) None (moving_image_at l.fn.self q);
  later : (q : ℕ) → 32 * l.group ≤ q → moving_image_at l.self q ≡ moving_image_at l.fn.self q;
  places : l.self.places ≡ l.fn.self.places;
  rec_lsns : l.self.rec_lsns ≡ l.fn.self.rec_lsns;
  asks : l.self.queues ≡ l.fn.self.queues;
}
