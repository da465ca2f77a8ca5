use Rattle.sd_pagelock.proofs.Unused.{users-moving}
use Rattle.sd_pagelock.proofs.rows.users.Goals as goal

pub returns-in-Moving : goal.returns-in-Moving
returns-in-Moving c = λ k. users-moving c.args.place.now c.in-Moving.to c.with.result.bits c.in-Moving.mode c.in-Moving.rest c.in-Moving.dirty c.in-Moving.is c.with.ensures k
