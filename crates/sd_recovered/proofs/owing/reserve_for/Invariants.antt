use Rattle.std.proofs.Common.{◌≡◌, ◌+◌, ◌-◌, ◌^◌, min, sum_by, take}
use Rattle.sd_recovered.specs.Owing.{bytes_at}
use Rattle.sd_recovered.proofs.owing.reserve_for.Given as goal

abbrev pub invariant-loop-at : goal.invariant-loop-at
invariant-loop-at l = l.bytes ≡ min (31 + sum_by (bytes_at l.log) (take l.at-index l.at-items)) (2 ^ 64 - 1)
