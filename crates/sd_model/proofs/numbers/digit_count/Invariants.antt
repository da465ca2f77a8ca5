use Rattle.std.proofs.Common.{◌≡◌, ◌+◌, ◌<◌, length, ◌^◌}
use Rattle.std.specs.Fmt.{decimal}
use Rattle.sd_model.proofs.numbers.digit_count.Given as goal

abbrev pub invariant-loop-rest : goal.invariant-loop-rest
invariant-loop-rest l = record { counts : l.count + length (decimal l.rest) ≡ 1 + length (decimal l.fn.n); low : l.rest < 2 ^ 64; few : l.count + l.rest < 2 ^ 64 + 1 }

abbrev pub decreases-loop-rest : goal.decreases-loop-rest
decreases-loop-rest l = l.rest
