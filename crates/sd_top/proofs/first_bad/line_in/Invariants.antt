use Rattle.std.proofs.Common.{◌≡◌}
use Rattle.sd_top.specs.FirstBad.{line_at}
use Rattle.sd_top.proofs.first_bad.line_in.Given as goal

-- the line is found among those that are left
abbrev pub invariant-loop-left : goal.invariant-loop-left
invariant-loop-left l = line_at l.rest l.left ≡ line_at l.text l.number

abbrev pub decreases-loop-left : goal.decreases-loop-left
decreases-loop-left l = l.left
