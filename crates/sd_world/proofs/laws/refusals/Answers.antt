use Rattle.sd_world.proofs.Causes.{cause-said, answer-clear, refusal-leaves, state-left, by_pages-left}
use Rattle.sd_world.proofs.laws.refusals.Goals as goal

pub returns-clause-said : goal.returns-clause-said
returns-clause-said c = cause-said

pub returns-clause-clear : goal.returns-clause-clear
returns-clause-clear c = answer-clear

pub returns-clause-pages : goal.returns-clause-pages
returns-clause-pages c = refusal-leaves

pub returns-clause-state : goal.returns-clause-state
returns-clause-state c = state-left

pub returns-clause-by_pages : goal.returns-clause-by_pages
returns-clause-by_pages c = by_pages-left
