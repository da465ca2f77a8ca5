use Rattle.sd_model.proofs.Stays.{step-start, run-start, step-done, run-done, commit-lasts, none-commits_twice}
use Rattle.sd_model.proofs.laws.lasting.Goals as goal

pub returns : goal.returns
returns c = record { start = step-start; start_all = run-start; done = step-done; done_all = run-done; acknowledged = commit-lasts; once = none-commits_twice }
