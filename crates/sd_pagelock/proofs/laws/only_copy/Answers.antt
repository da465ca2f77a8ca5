use Rattle.sd_pagelock.proofs.Losses.{never_lost, by_write}
use Rattle.sd_pagelock.proofs.laws.only_copy.Goals as goal

pub returns-clause-kept : goal.returns-clause-kept
returns-clause-kept c = never_lost

pub returns-clause-written : goal.returns-clause-written
returns-clause-written c = by_write
