use Rattle.std.proofs.Common.{◌≡◌, ◌+◌, ◌-◌, ◌^◌, length, min, sum_by, take}
use Rattle.sd_recovered.proofs.owing.owed.Given as goal

abbrev pub invariant-loop-loser : goal.invariant-loop-loser
invariant-loop-loser l = l.count ≡ min (sum_by (λ loser. 1 + length loser.open) (take l.loser-index l.loser-items)) (2 ^ 64 - 1)
