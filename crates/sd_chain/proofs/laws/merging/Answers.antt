use Rattle.sd_chain.proofs.Ties.{slow_of, fit_chain, chain_fit, replay_chain}
use Rattle.sd_chain.proofs.laws.merging.Goals as goal

pub returns-clause-fit : goal.returns-clause-fit
returns-clause-fit c floor page xs merged same rises =
    (fit_chain floor page xs merged same (slow_of merged rises), chain_fit floor page xs merged same (slow_of merged rises))

pub returns-clause-replay : goal.returns-clause-replay
returns-clause-replay c floor page xs merged same rises fit = replay_chain floor page xs merged same (slow_of merged rises) fit
