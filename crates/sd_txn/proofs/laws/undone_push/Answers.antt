use Rattle.sd_txn.proofs.Stacks.{popped-pushed}
use Rattle.sd_txn.proofs.laws.undone_push.Goals as goal

pub returns : goal.returns
returns c = popped-pushed
