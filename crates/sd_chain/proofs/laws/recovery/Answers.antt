use Rattle.sd_chain.proofs.Apart.{Recovered-one}
use Rattle.sd_chain.proofs.Recover.{recovered-undo_all, found_all}
use Rattle.sd_chain.proofs.laws.recovery.Goals as goal

pub returns-clause-one : goal.returns-clause-one
returns-clause-one c = Recovered-one

pub returns-clause-undone : goal.returns-clause-undone
returns-clause-undone c img sound ts o p s = recovered-undo_all img sound p s ts o.each o.once o.all

pub returns-clause-found : goal.returns-clause-found
returns-clause-found c img sound ts o = found_all img sound ts o.each o.once
