use Rattle.std.proofs.Common.{ℤ, w64, subst}
use Rattle.std.proofs.lemmas.Int.{to_z-of_z}
use Rattle.sd_model.specs.Numbers.{Lacks}
use Rattle.sd_oracle.proofs.NumberSums.{never-sum}
use Rattle.sd_oracle.proofs.records.sum_text.Goals as goal

pub returns-in-Err : goal.returns-in-Err
returns-in-Err c = never-sum c.in-Err.field-0 c.args.text.now c.args.by (subst (λ (z : ℤ). Lacks c.in-Err.field-0 c.args.text.now z) (to_z-of_z w64 c.args.by c.ranges.by) c.in-Err.ensures)
