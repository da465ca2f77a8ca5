use Rattle.std.proofs.Common.{◌≡◌, ◌<◌, ◌-◌, take, length-drop, sym, subst, List, length, get_or, drop, drop-cons, arith, MatchOption}
use Rattle.std.proofs.lemmas.List.{take_all}
use Rattle.sd_model.specs.declared.cause.Cause.{Cause}
use Rattle.sd_model.specs.declared.cause.Cause.TheVariants.{Shut}
use Rattle.sd_model.specs.declared.event.Event.{Event}
use Rattle.sd_model.specs.State.{State}
use Rattle.sd_oracle.specs.Lists.{meaning}
use Rattle.sd_oracle.specs.Firsts.{FirstOf, NoneFirst, IsFirstOf}
use Rattle.sd_oracle.proofs.Search.{not_true}
use Rattle.sd_oracle.proofs.Firsts.{first-more}
use Rattle.sd_oracle.proofs.causes.+first_of.Goals as goal

pub returns-else-is_first : goal.returns-else-is_first
returns-else-is_first t c =
    let m : State = meaning c.args.lists.now in
    let e : Event = c.args.event.now in
    let causes : List Cause = c.args.causes.now in
    let x : Cause = get_or causes 0 Shut in
    let lt : 0 < length causes = omega (arith, c.in-len1-up.len_at_least) in
    let whole : take (length causes - 1) (drop 1 causes) ≡ drop 1 causes = take_all (length causes - 1) (drop 1 causes) (omega (arith, length-drop 1 causes)) in
    subst (λ (l : List Cause). MatchOption c.first_of.result (NoneFirst m e l) (λ d. IsFirstOf m e d l)) (sym (drop-cons causes 0 Shut lt))
    (first-more c.first_of.result m e x (drop 1 causes) (λ f. not_true (c.if-is_first.ensures.1 (subst (FirstOf m e x) (sym c.order.ensures) f)))
    (subst (λ (l : List Cause). MatchOption c.first_of.result (NoneFirst m e l) (λ d. IsFirstOf m e d l)) whole c.first_of.ensures))
