use Rattle.sd_chain.proofs.Owing.{plain-owes, change-owes, first-change-owes, undo-owes, end-owes, idle-end-owes}
use Rattle.sd_chain.proofs.soundness_laws.owing.Goals as goal

pub returns-clause-plain : goal.returns-clause-plain
returns-clause-plain c = plain-owes

pub returns-clause-change : goal.returns-clause-change
returns-clause-change c = change-owes

pub returns-clause-first_change : goal.returns-clause-first_change
returns-clause-first_change c = first-change-owes

pub returns-clause-undo : goal.returns-clause-undo
returns-clause-undo c = undo-owes

pub returns-clause-end : goal.returns-clause-end
returns-clause-end c = end-owes

pub returns-clause-idle_end : goal.returns-clause-idle_end
returns-clause-idle_end c = idle-end-owes
