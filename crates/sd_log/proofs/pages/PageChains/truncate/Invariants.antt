use Rattle.std.proofs.Common.{◌≤◌, length}
use Rattle.sd_log.proofs.Paging.{IsFront}
use Rattle.sd_log.proofs.pages.PageChains.truncate.Given as goal

abbrev pub invariant-loop-self : goal.invariant-loop-self
invariant-loop-self l = IsFront l.count l.self.chains l.fn.self.chains × (l.fn.self.room ≤ l.self.room)

abbrev pub decreases-loop-self : goal.decreases-loop-self
decreases-loop-self l = length l.self.chains
