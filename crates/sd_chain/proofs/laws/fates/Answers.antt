use Rattle.sd_chain.proofs.Fates.{unknown-none, none-unknown, fate-open, open-fate, closed-fate, fate-closed, fate-committed, committed-fate, fate-ended, ended-fate, fate-others, committed-stays, ended-stays, fate-own}
use Rattle.sd_chain.proofs.laws.fates.Goals as goal

pub returns-clause-unknown : goal.returns-clause-unknown
returns-clause-unknown c t log = (unknown-none t log, none-unknown t log)

pub returns-clause-open : goal.returns-clause-open
returns-clause-open c t log = (fate-open t log, (λ o. open-fate t log o.0 o.1))

pub returns-clause-closed : goal.returns-clause-closed
returns-clause-closed c t log = (closed-fate t log, fate-closed t log)

pub returns-clause-committed : goal.returns-clause-committed
returns-clause-committed c t log = (fate-committed t log, committed-fate t log)

pub returns-clause-ended : goal.returns-clause-ended
returns-clause-ended c t log = (fate-ended t log, (λ e. ended-fate t log e.0 e.1))

pub returns-clause-kept : goal.returns-clause-kept
returns-clause-kept c = fate-others

pub returns-clause-committed_stays : goal.returns-clause-committed_stays
returns-clause-committed_stays c = committed-stays

pub returns-clause-ended_stays : goal.returns-clause-ended_stays
returns-clause-ended_stays c = ended-stays

pub returns-clause-own : goal.returns-clause-own
returns-clause-own c = fate-own
