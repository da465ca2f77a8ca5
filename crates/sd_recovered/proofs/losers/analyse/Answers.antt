use Rattle.sd_recovered.proofs.Ending.{first_disorders, first_within}
use Rattle.sd_recovered.proofs.losers.analyse.Goals as goal

pub returns-clause-disorder : goal.returns-clause-disorder
returns-clause-disorder c at is tidy = first_disorders c.args.log.now at (c.losers_of.ensures.first at is) tidy

pub returns-clause-place : goal.returns-clause-place
returns-clause-place c at is = first_within c.args.log.now at (c.losers_of.ensures.first at is)
