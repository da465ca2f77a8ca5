use Rattle.std.proofs.Common.{List, subst, Some, None}
use Rattle.sd_base.specs.declared.ids.TxnId.{TxnId}
use Rattle.sd_base.specs.declared.place.Mode.{Mode}
use Rattle.sd_reclock.specs.Locks.{mode_of, IsLowestHolder}
use Rattle.sd_reclock.proofs.Lowest.{lowest_below, lowest_above, lowest_none}
use Rattle.sd_reclock.proofs.others.Others.lowest_but.Goals as goal

pub returns-in-Some : goal.returns-in-Some
returns-in-Some c = subst (λ (es : List (TxnId × Mode)). IsLowestHolder (mode_of es) c.args.not.now (Some c.in-Some.t.now)) c.self.view_is
    (lowest_below c.self.inside.modes c.args.not.now _ _ _ (c.range.ensures.in_range tt) c.in-Some.ensures.steps)

pub returns-in-Some-next : goal.returns-in-Some-next
returns-in-Some-next c = subst (λ (es : List (TxnId × Mode)). IsLowestHolder (mode_of es) c.args.not.now (Some c.in-Some-next.t.now)) c.self.view_is
    (lowest_above c.self.inside.modes c.args.not.now _ _ _ _ (c.range.ensures.in_range tt) c.in-None.ensures.steps.0 (c.range-in-None.ensures.in_range tt) c.in-Some-next.ensures.steps)

pub returns-in-None-next : goal.returns-in-None-next
returns-in-None-next c = subst (λ (es : List (TxnId × Mode)). IsLowestHolder (mode_of es) c.args.not.now None) c.self.view_is
    (lowest_none c.self.inside.modes c.args.not.now _ _ (c.range.ensures.in_range tt) c.in-None.ensures.steps.0 (c.range-in-None.ensures.in_range tt) c.in-None-next.ensures.steps.0)
