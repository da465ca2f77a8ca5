use Rattle.std.proofs.Common.{◌↔◌, IsTrue, ℕ, ℤ, List, w64, rules, sym, subst}
use Rattle.std.proofs.lemmas.Int.{to_z-of_z}
use mir.Val.{SFits}
use Rattle.sd_model.specs.declared.cause.Cause.TheVariants.{Digits}
use Rattle.sd_model.specs.declared.event.Event.{Event}
use Rattle.sd_model.specs.Applies.{Says}
use Rattle.sd_model.specs.Numbers.{IsLongSum}
use Rattle.sd_model.specs.State.{view}
use Rattle.sd_oracle.specs.Lists.{meaning}
use Rattle.sd_oracle.proofs.NumberSums.{of-found}
use Rattle.sd_oracle.proofs.value_causes.is_too_much.Goals as goal

pub returns-in-Some : goal.returns-in-Some
returns-in-Some c =
    let f : SFits w64 c.in-Add.by = search rules in
    let long = subst (λ (z : ℤ). IsTrue c.is_long_sum.result ↔ IsLongSum c.in-Some.old.now z) (to_z-of_z w64 c.in-Add.by f) c.is_long_sum.ensures in
    subst (λ (e : Event). IsTrue c.is_long_sum.result ↔ Says (meaning c.args.lists.now) e Digits) (sym c.in-Add.is)
    (of-found (λ (u : List ℕ). IsLongSum u c.in-Add.by) c.is_long_sum.result c.in-Some.old.now (view (meaning c.args.lists.now) c.in-Add.txn c.in-Add.rid) c.in-Some.ensures long)
