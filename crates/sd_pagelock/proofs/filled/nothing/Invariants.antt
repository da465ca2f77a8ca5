use Rattle.std.proofs.Common.{◌≡◌, ◌-◌, ◌≤◌, replicate, vec_len, None}
use Rattle.sd_pagelock.proofs.filled.nothing.Given as goal

abbrev pub invariant-loop-values : goal.invariant-loop-values
invariant-loop-values g l = record {
  filled : l.values.items ≡ replicate (vec_len l.values) None;
  within : vec_len l.values ≤ 1024;
}

abbrev pub decreases-loop-values : goal.decreases-loop-values
decreases-loop-values g l = 1024 - vec_len l.values
