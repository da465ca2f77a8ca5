use Rattle.std.proofs.Common.{◌≡◌, true}
use Rattle.std.specs.List.{AllAdjacentBelow}
use Rattle.sd_logrec.specs.Spelling.{is_before}
use Rattle.sd_logrec.proofs.take.spans_rise.Given as goal

abbrev pub invariant-loop-i : goal.invariant-loop-i
invariant-loop-i l = AllAdjacentBelow (λ s t. true ≡ is_before s.0 t.0) l.spans l.i
