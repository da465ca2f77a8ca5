use Rattle.sd_world.proofs.Sums.{sums-grow, one_log-grows, logs-grow_little, run-grows, full-page, full-log, lsns-end, lsns-little, long-slot, shown-bounded, tries-free}
use Rattle.sd_world.proofs.laws.sums.Goals as goal

pub returns-clause-grow : goal.returns-clause-grow
returns-clause-grow c = sums-grow

pub returns-clause-run : goal.returns-clause-run
returns-clause-run c = run-grows

pub returns-clause-page : goal.returns-clause-page
returns-clause-page c = full-page

pub returns-clause-log : goal.returns-clause-log
returns-clause-log c = full-log

pub returns-clause-lsns : goal.returns-clause-lsns
returns-clause-lsns c = lsns-end

pub returns-clause-one : goal.returns-clause-one
returns-clause-one c = one_log-grows

pub returns-clause-little : goal.returns-clause-little
returns-clause-little c = logs-grow_little

pub returns-clause-slot : goal.returns-clause-slot
returns-clause-slot c = long-slot

pub returns-clause-numbers : goal.returns-clause-numbers
returns-clause-numbers c = lsns-little

pub returns-clause-waits : goal.returns-clause-waits
returns-clause-waits c = tries-free

pub returns-clause-shown : goal.returns-clause-shown
returns-clause-shown c = shown-bounded
