use Rattle.std.proofs.Common.{◌≡◌, ◌∙◌, ap, ℤ, w64, length, rules, subst}
use Rattle.std.proofs.lemmas.Int.{to_z-of_z}
use mir.Val.{SFits}
use Rattle.std.specs.Fmt.{signed_decimal}
use Rattle.sd_model.specs.Numbers.{Sums, Lacks}
use Rattle.sd_oracle.proofs.NumberSums.{never-sum, longer-sum}
use Rattle.sd_oracle.proofs.Search.{not_true}
use Rattle.sd_oracle.proofs.value_causes.outgrows.Goals as goal

pub returns-in-Ok : goal.returns-in-Ok
returns-in-Ok c =
    let f : SFits w64 c.in-Ok.sum = search rules in
    let s : Sums c.args.text.now c.args.by (signed_decimal c.in-Ok.sum) = subst (λ (z : ℤ). Sums c.args.text.now z (signed_decimal c.in-Ok.sum)) (to_z-of_z w64 c.args.by c.ranges.by) c.in-Ok.ensures in
    let n : c.text_length.result ≡ length (signed_decimal c.in-Ok.sum) = c.text_length.ensures ∙ ap (λ (z : ℤ). length (signed_decimal z)) (to_z-of_z w64 c.in-Ok.sum f) in
    longer-sum c.args.text.now (signed_decimal c.in-Ok.sum) c.args.by c.text_length.result s n

pub returns-in-Err : goal.returns-in-Err
returns-in-Err c =
    let lacks : Lacks c.in-Err.field-0 c.args.text.now c.args.by = subst (λ (z : ℤ). Lacks c.in-Err.field-0 c.args.text.now z) (to_z-of_z w64 c.args.by c.ranges.by) c.in-Err.ensures in
    (λ t. absurd (not_true t), λ h. absurd (never-sum c.in-Err.field-0 c.args.text.now c.args.by lacks h.0 h.1))
