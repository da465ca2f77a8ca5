use Rattle.sd_chain.proofs.Images.{settled-safe, settled-gives}
use Rattle.sd_chain.proofs.laws.settling.Goals as goal

pub returns-clause-safe : goal.returns-clause-safe
returns-clause-safe g c i kept old new s version safe = settled-safe i kept old new s g.C.Crashes.may version safe

pub returns-clause-gives : goal.returns-clause-gives
returns-clause-gives g c i kept old new s value gives = settled-gives i kept old new s g.C.Crashes.may value gives
