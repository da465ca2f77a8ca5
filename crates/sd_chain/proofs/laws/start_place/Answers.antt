use Rattle.sd_chain.proofs.Images.{shortened-safe, shortened-gives}
use Rattle.sd_chain.proofs.SameRecords.{shortening-records}
use Rattle.sd_chain.proofs.laws.start_place.Goals as goal

pub returns-clause-safe : goal.returns-clause-safe
returns-clause-safe g c i gone old new s version safe = shortened-safe i gone old new g.C.Crashes.may s version safe

pub returns-clause-gives : goal.returns-clause-gives
returns-clause-gives g c i gone old new s value gives = shortened-gives i gone old new g.C.Crashes.may s value gives

pub returns-clause-records : goal.returns-clause-records
returns-clause-records g c i gone old new s t opens = shortening-records g.C.Crashes.may i gone old new s t opens
