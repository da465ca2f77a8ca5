use Rattle.std.proofs.Common.{◌+◌, ◌≤◌, length}
use Rattle.sd_oracle.proofs.Scans.{Scanned}
use Rattle.sd_oracle.proofs.values.last_put.Given as goal

abbrev pub invariant-loop-left : goal.invariant-loop-left
invariant-loop-left l = record { few : l.undos + l.left ≤ length l.acts; same : Scanned l.acts l.left l.undos l.rid }

abbrev pub decreases-loop-left : goal.decreases-loop-left
decreases-loop-left l = l.left
