use Rattle.sd_oracle.specs.Lists.{state_of}
use Rattle.sd_model.proofs.Scenes.{running-test}
use Rattle.sd_oracle.proofs.watch.runs.Goals as goal

pub returns : goal.returns
returns c = running-test c.runs.result ((state_of c.args.table.now).part c.args.txn.now).life c.runs.ensures
