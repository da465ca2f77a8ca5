use Rattle.std.proofs.Common.{◌≡◌, true, nat_lt}
use Rattle.std.specs.List.{AllAdjacentBelow}
use Rattle.sd_logrec.proofs.take.recs_rise.Given as goal

abbrev pub invariant-loop-i : goal.invariant-loop-i
invariant-loop-i l = AllAdjacentBelow (λ c d. true ≡ nat_lt c.0 d.0) l.recs l.i
