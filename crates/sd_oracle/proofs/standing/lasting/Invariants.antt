use Rattle.std.proofs.Common.{◌≡◌, ℕ, List, filter, leb, take}
use Rattle.sd_oracle.proofs.standing.lasting.Given as goal

abbrev pub invariant-loop-mark : goal.invariant-loop-mark
invariant-loop-mark l = l.all.items ≡ filter (λ (x : List ℕ × ℕ). leb x.1 l.count) (take l.mark-index l.marks)
