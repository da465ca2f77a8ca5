use Rattle.std.proofs.Common.{◌≡◌, true, List, refl, sym, subst}
use Rattle.sd_model.specs.declared.cause.Cause.{Cause}
use Rattle.sd_model.specs.Causes.{has_cause}
use Rattle.sd_oracle.proofs.Search.{not_true}
use Rattle.sd_oracle.specs.Firsts.{IsFirstOf}
use Rattle.sd_oracle.specs.Lists.{meaning}
use Rattle.sd_oracle.proofs.Outcomes.{judged-refusal}
use Rattle.sd_oracle.proofs.refusals.refuse.Goals as goal

pub returns-then-not-tells-clause-judged : goal.returns-then-not-tells-clause-judged
returns-then-not-tells-clause-judged c = (λ m1 step told. not_true (c.if-not-tells.ensures.1 step.2), refl)

pub returns-in-None-clause-judged : goal.returns-in-None-clause-judged
returns-in-None-clause-judged c = (λ m1 step told. c.in-None.ensures step.0 (subst (λ (l : List Cause). has_cause step.0 l ≡ true) (sym c.causes_of.ensures) step.1, step.3), refl)

pub returns-in-Some-clause-judged : goal.returns-in-Some-clause-judged
returns-in-Some-clause-judged c =
    let old = meaning c.args.lists.now in
    let first = subst (λ (l : List Cause). IsFirstOf old c.args.event.now c.in-Some.cause l) c.causes_of.ensures c.in-Some.ensures in
    judged-refusal c.suffer.result c.args.outcome.now old c.args.event.now c.args.refusal.now c.in-Some.cause (meaning c.suffer.new.lists) (c.if-not-tells.ensures.0 refl) first c.suffer.ensures.judged
