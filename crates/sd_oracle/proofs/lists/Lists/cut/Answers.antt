use Rattle.std.proofs.Common.{◌∙◌, ap}
use Rattle.sd_model.specs.State.{cut_commit}
use Rattle.sd_oracle.proofs.lists.Lists.cut.Goals as goal

pub returns-clause-cut : goal.returns-clause-cut
returns-clause-cut c = c.in_ok-cut_in_place.ensures ∙ ap (cut_commit c.args.txn.now) c.in_ok-next.ensures
