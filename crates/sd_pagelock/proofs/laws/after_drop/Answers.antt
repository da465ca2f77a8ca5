use Rattle.sd_pagelock.proofs.Drops.{holds-dropped, passes-dropped, changed-dropped, uses-dropped, formed-dropped}
use Rattle.sd_pagelock.proofs.laws.after_drop.Goals as goal

pub returns-clause-holds : goal.returns-clause-holds
returns-clause-holds c = holds-dropped

pub returns-clause-passes : goal.returns-clause-passes
returns-clause-passes c = passes-dropped

pub returns-clause-changed : goal.returns-clause-changed
returns-clause-changed c = changed-dropped

pub returns-clause-uses : goal.returns-clause-uses
returns-clause-uses c = uses-dropped

pub returns-clause-formed : goal.returns-clause-formed
returns-clause-formed c = formed-dropped
