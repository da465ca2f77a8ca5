use Rattle.std.proofs.Common.{◌+◌, ◌-◌, [], length}
use Rattle.sd_reclock.specs.Reaching.{IsReached}
use Rattle.sd_reclock.specs.Searching.{has_seen, steps_of, unseen, IsWaiting}
use Rattle.sd_reclock.proofs.deadlock.Asking.cycle.Given as goal

abbrev pub invariant-place : goal.invariant-place
invariant-place g l = IsReached (steps_of g.L.Standing.stands l.self) (IsWaiting l.self) l.self.asker l.found.items (has_seen l.seen) l.at []

abbrev pub decreases-place : goal.decreases-place
decreases-place g l = (unseen l.self l.seen + length l.found.items) - l.at
