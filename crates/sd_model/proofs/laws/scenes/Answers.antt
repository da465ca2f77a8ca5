use Rattle.sd_model.proofs.Scenes.{only-running, caller-waits, others-wait_on, scenes-running, step-plays, scenes-grow, scenes-run, run-scenes}
use Rattle.sd_model.proofs.laws.scenes.Goals as goal

pub returns : goal.returns
returns c = record {
  running = only-running;
  caller = caller-waits;
  others = others-wait_on;
  running_all = scenes-running;
  plays = step-plays;
  grows = scenes-grow;
  states = scenes-run;
  exist = run-scenes;
}
