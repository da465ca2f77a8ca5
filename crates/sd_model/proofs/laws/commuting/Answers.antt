use Rattle.sd_model.proofs.Swap.{seen-swap, after-late, kept-disjoint, commit-late}
use Rattle.sd_model.proofs.laws.commuting.Goals as goal

pub returns : goal.returns
returns c = record { puts = seen-swap; late = after-late; apart = kept-disjoint; doubt = commit-late }
