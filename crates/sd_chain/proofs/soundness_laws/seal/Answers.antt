use Rattle.sd_chain.proofs.Lsns.{next_lsn-there}
use Rattle.sd_chain.proofs.Room.{end-room}
use Rattle.sd_chain.proofs.Reserved.{end-keeps}
use Rattle.sd_chain.proofs.soundness_laws.seal.Goals as goal

pub returns-clause-keeps : goal.returns-clause-keeps
returns-clause-keeps g c = end-keeps g.M.Moment.leaves

pub returns-clause-room : goal.returns-clause-room
returns-clause-room g c = end-room

pub returns-clause-lsn : goal.returns-clause-lsn
returns-clause-lsn g c = next_lsn-there g.M.Moment.leaves
