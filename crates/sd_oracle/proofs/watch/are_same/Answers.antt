use Rattle.std.proofs.lemmas.Slice.Eq.{slice_eq-Decides}
use Rattle.sd_base.specs.Ids.{same_txn}
use Rattle.sd_oracle.proofs.Deciding.{same_txn-Decides}
use Rattle.sd_oracle.proofs.watch.are_same.Goals as goal

pub returns : goal.returns
unfolding same_txn
returns c = slice_eq-Decides same_txn-Decides c.args.found.now c.args.cycle.now c.eq.result c.eq.ensures
