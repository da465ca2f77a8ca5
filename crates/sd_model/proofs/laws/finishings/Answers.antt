use Rattle.sd_model.proofs.Finished.{finished-committed, finished-empty}
use Rattle.sd_model.proofs.laws.finishings.Goals as goal

pub returns : goal.returns
returns c = record {
  committed = λ m k pl l i t own life kept found r. finished-committed m k pl i t own life kept found l r;
  empty = finished-empty;
}
