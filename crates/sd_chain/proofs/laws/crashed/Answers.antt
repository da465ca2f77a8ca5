use Rattle.sd_chain.proofs.Left.{left-stands, force-leaves, put-leaves}
use Rattle.sd_chain.proofs.laws.crashed.Goals as goal

pub returns-clause-stands : goal.returns-clause-stands
returns-clause-stands g c tails version value img safe gives l = left-stands tails g.C.Crashes.may version value img safe gives l

pub returns-clause-force : goal.returns-clause-force
returns-clause-force g c i tails img f = force-leaves i tails g.C.Crashes.may img f

pub returns-clause-put : goal.returns-clause-put
returns-clause-put g c p page tails img f = put-leaves p page tails g.C.Crashes.may img f
