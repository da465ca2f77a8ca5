use Rattle.sd_world.proofs.Leading.{leads-join, leads-grow, leads-run, leads-exactly, leads-with_tries, leads_on-grow, try-leads_on}
use Rattle.sd_world.proofs.laws.runs.Goals as goal

pub returns-clause-join : goal.returns-clause-join
returns-clause-join c = leads-join

pub returns-clause-grow : goal.returns-clause-grow
returns-clause-grow c = leads-grow

pub returns-clause-states : goal.returns-clause-states
returns-clause-states c = leads-run

pub returns-clause-exact : goal.returns-clause-exact
returns-clause-exact c = leads-exactly

pub returns-clause-with_tries : goal.returns-clause-with_tries
returns-clause-with_tries c = leads-with_tries

pub returns-clause-grow_on : goal.returns-clause-grow_on
returns-clause-grow_on c = leads_on-grow

pub returns-clause-try_on : goal.returns-clause-try_on
returns-clause-try_on c = try-leads_on
