use Rattle.sd_chain.proofs.Losers.{losers-open, loser-fate, fate-loser, opening-recovers}
use Rattle.sd_chain.proofs.laws.losers.Goals as goal

pub returns-clause-open : goal.returns-clause-open
returns-clause-open c = losers-open

pub returns-clause-fated : goal.returns-clause-fated
returns-clause-fated c img own t = (loser-fate img own t, fate-loser img own t)

pub returns-clause-recovers : goal.returns-clause-recovers
returns-clause-recovers c = opening-recovers
