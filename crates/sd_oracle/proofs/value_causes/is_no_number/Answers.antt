use Rattle.std.proofs.Common.{◌↔◌, IsTrue, ℕ, List, sym, subst, not}
use Rattle.sd_model.specs.declared.cause.Cause.TheVariants.{NotNumber}
use Rattle.sd_model.specs.declared.event.Event.{Event}
use Rattle.sd_model.specs.Applies.{Says}
use Rattle.sd_model.specs.Numbers.{IsNumber}
use Rattle.sd_model.specs.State.{view}
use Rattle.sd_oracle.specs.Lists.{meaning}
use Rattle.sd_oracle.proofs.NumberSums.{not-so, of-found}
use Rattle.sd_oracle.proofs.value_causes.is_no_number.Goals as goal

pub returns-in-Some : goal.returns-in-Some
returns-in-Some c = subst (λ (e : Event). IsTrue (not c.is_number.result) ↔ Says (meaning c.args.lists.now) e NotNumber) (sym c.in-Add.is)
    (of-found (λ (u : List ℕ). IsNumber u → ⊥) (not c.is_number.result) c.in-Some.old.now (view (meaning c.args.lists.now) c.in-Add.txn c.in-Add.rid) c.in-Some.ensures (not-so c.is_number.result (IsNumber c.in-Some.old.now) c.is_number.ensures))
