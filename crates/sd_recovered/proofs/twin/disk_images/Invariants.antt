use Rattle.std.proofs.Common.{◌≡◌, ℕ, ◌<◌, Some, length}
use Rattle.std.specs.Prelude.{slice_get}
use Rattle.sd_chain.specs.Bytes.{disk_page}
use Rattle.sd_chain.specs.Checks.{TwinIsSound}
use Rattle.sd_recovered.proofs.twin.disk_images.Given as goal

abbrev pub invariant-loop-p : goal.invariant-loop-p
invariant-loop-p l = record {
  count : length l.pages.items ≡ l.p;
  images : (p : ℕ) → p < l.p → slice_get l.pages.items p ≡ Some (disk_page l.bytes p);
  sound : (p : ℕ) → p < l.p → TwinIsSound p l.bytes;
}
