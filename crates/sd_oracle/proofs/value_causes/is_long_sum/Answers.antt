use Rattle.std.proofs.Common.{ℤ, w64, subst}
use Rattle.std.proofs.lemmas.Int.{to_z-of_z}
use Rattle.std.specs.Fmt.{signed_decimal}
use Rattle.sd_model.specs.Numbers.{Sums}
use Rattle.sd_oracle.proofs.Search.{not_true}
use Rattle.sd_oracle.proofs.value_causes.is_long_sum.Goals as goal

pub returns-in-Ok : goal.returns-in-Ok
returns-in-Ok c =
    let s : Sums c.args.text.now c.args.by (signed_decimal c.in-Ok.field-0) = subst (λ (z : ℤ). Sums c.args.text.now z (signed_decimal c.in-Ok.field-0)) (to_z-of_z w64 c.args.by c.ranges.by) c.in-Ok.ensures in
    (λ t. absurd (not_true t), λ h. absurd (s.short h))
