use Rattle.std.proofs.Common.{◌≡◌, List, Option, Some, None, subst, sym, refl, cond, ap, ◌∙◌}
use Rattle.std.specs.Option.{IsSome}
use Rattle.sd_base.specs.declared.ids.TxnId.{TxnId}
use Rattle.sd_base.specs.declared.place.Mode.{Mode}
use Rattle.sd_base.specs.Ids.{same_txn}
use Rattle.sd_reclock.specs.Locks.{mode_of, IsNoStronger}
use Rattle.sd_reclock.proofs.Lowering.{none_lowered, none_taken}
use Rattle.sd_reclock.proofs.others.Others.lower.Goals as goal
use Rattle.sd_base.proofs.Orders.{put-txn, look-txn}

pub returns-in-Some-get_mut : goal.returns-in-Some-get_mut
returns-in-Some-get_mut c = λ u.
    let w = c.in-Some.mode in
    let P : Option Mode → Type 0 = λ o. IsSome o in
    rw c.in-Some.is (subst (λ (old : List (TxnId × Mode)). mode_of (c.get_mut.follows.lender w).entries u ≡ cond {A = Option Mode} (same_txn c.args.t.now u) (Some w) (mode_of old u)) c.self.view_is
    (put-txn c.args.t.now u (Some w) c.self.inside.modes.entries (c.get_mut.follows.lender w).entries (((c.get_mut.follows.holds w).3 (subst P c.in-Some-get_mut.ensures.value refl)).0 u)))

pub returns-in_default : goal.returns-in_default
returns-in_default c = λ u.
    let none : mode_of c.self.inside.modes.entries c.args.t.now ≡ None = sym (c.in_default.ensures.value ∙ look-txn c.args.t.now c.self.inside.modes.entries) in
    let gone : c.args.to ≡ None = none_lowered c.args.to (mode_of c.self.inside.modes.entries c.args.t.now)
    (subst (λ (old : List (TxnId × Mode)). IsNoStronger c.args.to (mode_of old c.args.t.now)) (sym c.self.view_is) c.requires.weaker) none in
    rw c.get_mut.follows.holds-at-none
    (subst (λ (old : List (TxnId × Mode)). mode_of c.self.inside.modes.entries u ≡ cond {A = Option Mode} (same_txn c.args.t.now u) c.args.to (mode_of old u)) c.self.view_is
    (none_taken c.self.inside.modes.entries c.args.t.now u none ∙ ap (λ (o : Option Mode). cond {A = Option Mode} (same_txn c.args.t.now u) o (mode_of c.self.inside.modes.entries u)) (sym gone)))

pub returns-in-None : goal.returns-in-None
returns-in-None c = λ u. rw c.in-None.is (subst (λ (old : List (TxnId × Mode)). mode_of c.remove.new.self.entries u ≡ cond {A = Option Mode} (same_txn c.args.t.now u) None (mode_of old u)) c.self.view_is
    (put-txn c.args.t.now u None c.self.inside.modes.entries c.remove.new.self.entries (c.remove.ensures.updates.0 u)))
