use Rattle.sd_pagelock.proofs.Falls.{holds-taken, uses-taken}
use Rattle.sd_pagelock.proofs.laws.after_take.Goals as goal

pub returns-clause-holds : goal.returns-clause-holds
returns-clause-holds c = holds-taken

pub returns-clause-uses : goal.returns-clause-uses
returns-clause-uses c = uses-taken
