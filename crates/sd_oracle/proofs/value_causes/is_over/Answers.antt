use Rattle.std.proofs.Common.{◌↔◌, IsTrue, ℕ, ℤ, List, w64, ◌<◌, length, rules, sym, subst}
use Rattle.std.proofs.lemmas.Int.{to_z-of_z}
use mir.Val.{SFits}
use Rattle.sd_model.specs.declared.cause.Cause.TheVariants.{Over}
use Rattle.sd_model.specs.declared.event.Event.{Event}
use Rattle.sd_model.specs.Applies.{Says}
use Rattle.sd_model.specs.Numbers.{IsSum}
use Rattle.sd_model.specs.State.{view}
use Rattle.sd_oracle.specs.Lists.{meaning}
use Rattle.sd_oracle.proofs.NumberSums.{of-sum}
use Rattle.sd_oracle.proofs.value_causes.is_over.Goals as goal

pub returns-in-Some-view : goal.returns-in-Some-view
returns-in-Some-view c =
    let f : SFits w64 c.in-Add.by = search rules in
    let more = subst (λ (z : ℤ). IsTrue c.outgrows.result ↔ ((w : List ℕ) × IsSum c.in-Some-view.old.now z w × (length c.in-Some-view.old.now < length w))) (to_z-of_z w64 c.in-Add.by f) c.outgrows.ensures in
    subst (λ (e : Event). IsTrue c.outgrows.result ↔ Says (meaning c.args.lists.now) e Over) (sym c.in-Add.is)
    (of-sum c.in-Add.by c.outgrows.result c.in-Some-view.old.now (view (meaning c.args.lists.now) c.in-Add.txn c.in-Add.rid) c.in-Some-view.ensures more)
