use Rattle.sd_pagelock.proofs.Falls.{holds-fallen, uses-fallen}
use Rattle.sd_pagelock.proofs.Forms.{formed-fallen}
use Rattle.sd_pagelock.proofs.laws.after_fall.Goals as goal

pub returns-clause-holds : goal.returns-clause-holds
returns-clause-holds c = holds-fallen

pub returns-clause-uses : goal.returns-clause-uses
returns-clause-uses c = uses-fallen

pub returns-clause-formed : goal.returns-clause-formed
returns-clause-formed c = formed-fallen
