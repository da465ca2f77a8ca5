use Rattle.sd_restart.proofs.Matching.{IsOwedBy, matches_all, owed_all}
use Rattle.sd_restart.proofs.parts.owed_of.Goals as goal

pub returns : goal.returns
returns c = λ logs are.
    owed_all logs c.args.losers.now c.loop-found.all.items are
    (matches_all IsOwedBy c.args.losers.now c.loop-found.all.items c.loop-found.found-index c.loop-found.invariant
    c.loop-found.auto.found-index-end c.loop-found-test.false)
