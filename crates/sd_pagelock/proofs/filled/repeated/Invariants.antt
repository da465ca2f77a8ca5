use Rattle.std.proofs.Common.{◌≡◌, ◌-◌, ◌≤◌, replicate, vec_len}
use Rattle.sd_pagelock.proofs.filled.repeated.Given as goal

abbrev pub invariant-loop-value : goal.invariant-loop-value
invariant-loop-value g l = record {
  filled : l.values.items ≡ replicate (vec_len l.values) l.value;
  within : vec_len l.values ≤ l.count;
}

abbrev pub decreases-loop-value : goal.decreases-loop-value
decreases-loop-value g l = l.count - vec_len l.values
