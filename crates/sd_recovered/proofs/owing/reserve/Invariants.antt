use Rattle.std.proofs.Common.{◌≡◌, ◌-◌, ◌^◌, min, sum_by, take}
use Rattle.sd_recovered.specs.Owing.{bytes_for}
use Rattle.sd_recovered.proofs.owing.reserve.Given as goal

abbrev pub invariant-loop-loser : goal.invariant-loop-loser
invariant-loop-loser l = l.bytes ≡ min (sum_by (bytes_for l.log) (take l.loser-index l.loser-items)) (2 ^ 64 - 1)
