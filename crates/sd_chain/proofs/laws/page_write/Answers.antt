use Rattle.sd_chain.proofs.Images.{write-safe, write-gives}
use Rattle.sd_chain.proofs.laws.page_write.Goals as goal

pub returns-clause-safe : goal.returns-clause-safe
returns-clause-safe g c p tails version safe w = write-safe tails g.C.Crashes.may version safe p w.forced w.read.0 w.read.1

pub returns-clause-gives : goal.returns-clause-gives
returns-clause-gives g c p tails version safe w value gives =
    write-gives tails g.C.Crashes.may version safe p w.forced w.read.0 w.read.1 value gives
