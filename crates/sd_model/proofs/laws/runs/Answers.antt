use Rattle.sd_model.proofs.Runs.{run-grows, run-splits, runs-join}
use Rattle.sd_model.proofs.laws.runs.Goals as goal

pub returns : goal.returns
returns c = record { grows = run-grows; splits = run-splits; join = runs-join }
