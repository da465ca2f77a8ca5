use Rattle.std.proofs.Common.{◌≡◌, ◌<◌, ◌≤◌, ◌+◌, length, take}
use Rattle.sd_reclock.specs.Reaching.{met_at, IsReached}
use Rattle.sd_reclock.specs.Searching.{has_seen, steps_of, unseen, IsWaiting}
use Rattle.sd_reclock.proofs.deadlock.Asking.meet.Given as goal

abbrev pub invariant-loop-u : goal.invariant-loop-u
invariant-loop-u g l = record {
  reached : IsReached (steps_of g.L.Standing.stands l.self) (IsWaiting l.self) l.self.asker l.found.items (has_seen l.seen) l.at (take l.u-index l.next);
  inside : l.at < length l.found.items;
  here : met_at l.self.asker l.found.items l.at ≡ met_at l.self.asker l.fn.found.items l.at;
  left : unseen l.self l.seen + length l.found.items ≤ unseen l.self l.fn.seen + length l.fn.found.items;
}
