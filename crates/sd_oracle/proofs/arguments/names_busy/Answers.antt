use Rattle.std.proofs.Common.{sym, subst, IsTrue}
use Rattle.sd_model.specs.declared.event.Event.{Event}
use Rattle.sd_model.specs.Refusing.{NamesBusy}
use Rattle.sd_oracle.specs.Lists.{meaning}
use Rattle.sd_oracle.proofs.arguments.names_busy.Goals as goal

pub returns-in-List : goal.returns-in-List
returns-in-List c =
    let b = c.is_lowest_changer.result in
    subst (λ (e : Event). (IsTrue b → NamesBusy (meaning c.args.lists.now) e c.args.by.now) × (NamesBusy (meaning c.args.lists.now) e c.args.by.now → IsTrue b)) (sym c.in-List.is) c.is_lowest_changer.ensures
