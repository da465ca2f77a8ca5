use Rattle.sd_chain.proofs.Narrowed.{narrowed-safe, narrowed-gives, narrowed-leaves}
use Rattle.sd_chain.proofs.laws.narrowing.Goals as goal

pub returns-clause-safe : goal.returns-clause-safe
returns-clause-safe g c narrows tails version safe = narrowed-safe g.C.Crashes.may g.D.Crashes.may narrows tails version safe

pub returns-clause-gives : goal.returns-clause-gives
returns-clause-gives g c narrows tails value gives = narrowed-gives g.C.Crashes.may g.D.Crashes.may narrows tails value gives

pub returns-clause-leaves : goal.returns-clause-leaves
returns-clause-leaves g c narrows tails img l = narrowed-leaves g.C.Crashes.may g.D.Crashes.may narrows tails img l
