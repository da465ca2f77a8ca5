use Rattle.std.proofs.Common.{◌≡◌, ℕ, List, ◌++◌, cond, drop}
use Rattle.sd_model.specs.Changes.{with_mark}
use Rattle.sd_oracle.proofs.standing.with_mark.Given as goal

abbrev pub invariant-loop-mark : goal.invariant-loop-mark
invariant-loop-mark l = with_mark l.name l.count l.marks ≡ l.all.items ++ cond {A = List (List ℕ × ℕ)} l.found (drop l.mark-index l.marks) (with_mark l.name l.count (drop l.mark-index l.marks))
