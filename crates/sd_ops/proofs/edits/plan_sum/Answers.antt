use Rattle.std.proofs.Common.{◌≡◌, ℕ, ℤ, List, ap, of_z, rules, subst, to_z, w64, ◌∙◌}
use Rattle.std.specs.Fmt.{signed_decimal}
use Rattle.std.proofs.lemmas.Int.{to_z-of_z}
use Rattle.sd_model.specs.Numbers.{Sums}
use Rattle.sd_ops.specs.Edits.{IsFitted}
use Rattle.sd_ops.proofs.Planning.{sum-fitted}
use Rattle.sd_ops.proofs.edits.plan_sum.Goals as goal

pub returns-in-Ok : goal.returns-in-Ok
returns-in-Ok c =
    let sum : to_z w64 (of_z w64 c.in-Ok.sum) ≡ c.in-Ok.sum = search (rules, to_z-of_z) in
    let by : to_z w64 (of_z w64 c.args.by) ≡ c.args.by = search (rules, to_z-of_z) in
    let text = c.as_bytes.ensures.value ∙ c.format.ensures.text ∙ ap signed_decimal sum in
    sum-fitted c.args.capacity c.args.old.now (signed_decimal c.in-Ok.sum) c.args.by
    (subst (λ (z : ℤ). Sums c.args.old.now z (signed_decimal c.in-Ok.sum)) by c.in-Ok.ensures) c.put.result
    (subst (λ (v : List ℕ). IsFitted c.args.capacity v c.put.result) text c.put.ensures)
