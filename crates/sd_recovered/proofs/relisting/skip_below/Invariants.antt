use Rattle.std.proofs.Common.{length, ◌-◌}
use Rattle.sd_recovered.specs.Walks.{AreBelow}
use Rattle.sd_recovered.proofs.relisting.skip_below.Given as goal

abbrev pub invariant-loop-next : goal.invariant-loop-next
invariant-loop-next l = AreBelow l.losers l.next l.txn

abbrev pub decreases-loop-next : goal.decreases-loop-next
decreases-loop-next l = length l.losers - l.next
