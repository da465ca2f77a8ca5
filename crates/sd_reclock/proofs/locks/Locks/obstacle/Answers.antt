use Rattle.std.proofs.Common.{ap, is_some}
use Rattle.sd_reclock.proofs.locks.Locks.obstacle.Goals as goal

pub returns-then-stands-clause-stands : goal.returns-then-stands-clause-stands
returns-then-stands-clause-stands c = c.stands.ensures.0 c.if-stands.true

pub returns-then-stands-clause-lowest : goal.returns-then-stands-clause-lowest
returns-then-stands-clause-lowest c = λ u s. c.in_ok-other.ensures.lowest.2 u s.other (ap is_some s.holds)
