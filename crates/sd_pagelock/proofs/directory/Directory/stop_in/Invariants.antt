use Rattle.std.proofs.Common.{◌≡◌, ◌*◌, ◌<◌, ◌≤◌, ℕ, cond, None, Option}
use Rattle.sd_pagelock.specs.Places.{receives}
use Rattle.sd_pagelock.specs.Directory.{entry_at, moving_image_at}
use Rattle.sd_pagelock.proofs.directory.Directory.stop_in.Given as goal

abbrev pub invariant-loop-n : goal.invariant-loop-n
invariant-loop-n g l = record {
  images : (q : ℕ) → 32 * l.group ≤ q → q < l.n → moving_image_at l.self q ≡ cond {A = Option g.row.I.Denot} (receives (entry_at l.fn.self q) l.i) None (moving_image_at l.fn.self q);
  below : (q : ℕ) → q < 32 * l.group → moving_image_at l.self q ≡ moving_image_at l.fn.self q;
  later : (q : ℕ) → l.n ≤ q → moving_image_at l.self q ≡ moving_image_at l.fn.self q;
  places : l.self.places ≡ l.fn.self.places;
  rec_lsns : l.self.rec_lsns ≡ l.fn.self.rec_lsns;
  asks : l.self.queues ≡ l.fn.self.queues;
}
