use Rattle.sd_model.proofs.Opened.{fresh-opened, opened-placed, opened-listed, opened-marked}
use Rattle.sd_model.proofs.Recoverers.{opened-recoverers}
use Rattle.sd_model.proofs.laws.openings.Goals as goal

pub returns : goal.returns
returns c = record {
  fresh = fresh-opened;
  placed = opened-placed;
  listed = opened-listed;
  marked = opened-marked;
  recoverers = opened-recoverers;
}
