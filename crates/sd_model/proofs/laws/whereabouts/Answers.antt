use Rattle.sd_model.proofs.PlacedRun.{step-placed, run-placed}
use Rattle.sd_model.proofs.Listed.{step-listed, run-listed, new-id, count-began}
use Rattle.sd_model.proofs.Counting.{count-true}
use Rattle.sd_model.proofs.Marks.{rolls-on}
use Rattle.sd_model.proofs.MarksRun.{step-marked, run-marked}
use Rattle.sd_model.proofs.Recoverers.{step-recoverers, run-recoverers, recoverer-active}
use Rattle.sd_model.proofs.laws.whereabouts.Goals as goal

pub returns : goal.returns
returns c = record {
  placed = step-placed;
  placed_all = run-placed;
  listed = step-listed;
  listed_all = run-listed;
  marked = step-marked;
  marked_all = run-marked;
  recoverers = step-recoverers;
  recoverers_all = run-recoverers;
  active = recoverer-active;
  new_id = new-id;
  counts = count-began;
  true_count = count-true;
  goes_on = rolls-on;
}
