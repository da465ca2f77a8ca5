use Rattle.sd_chain.proofs.Next.{own-begun, epoch-others, epoch-start}
use Rattle.sd_chain.proofs.Starts.{later-epoch}
use Rattle.sd_chain.proofs.soundness_laws.epochs.Goals as goal

pub returns-clause-begun : goal.returns-clause-begun
returns-clause-begun c = own-begun

pub returns-clause-others : goal.returns-clause-others
returns-clause-others c = epoch-others

pub returns-clause-start : goal.returns-clause-start
returns-clause-start c = epoch-start

pub returns-clause-later : goal.returns-clause-later
returns-clause-later c = later-epoch
