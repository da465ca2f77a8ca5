use Rattle.std.proofs.Common.{◌≡◌, Option, Some, None, ap, sym, subst, ◌∙◌, refl, cond}
use Rattle.std.specs.Option.{IsSome}
use Rattle.sd_base.specs.declared.ids.TxnId.{TxnId}
use Rattle.sd_base.specs.declared.place.Mode.{Mode}
use Rattle.sd_base.specs.Ids.{same_txn}
use Rattle.sd_reclock.specs.Locks.{Modes, held_in, mode_of, mode_among, IsNoStronger}
use Rattle.sd_reclock.proofs.Writes.{Changes, changes, changes_nothing, put_then_remove}
use Rattle.sd_reclock.proofs.Lowering.{none_lowered}
use Rattle.sd_reclock.proofs.many.lower.Goals as goal
use Rattle.sd_base.proofs.Orders.{put-rid, look-rid}

pub returns-in_default : goal.returns-in_default
returns-in_default c = λ u q.
    let old = c.args.records.now.entries in
    let none = sym (c.in_default.ensures.value ∙ look-rid c.args.r.now old) in
    let gone : c.args.to ≡ None = none_lowered c.args.to (held_in old c.args.t.now c.args.r.now) c.requires.weaker (ap (λ (o : Option Modes). mode_among o c.args.t.now) none) in
    rw c.get_mut.follows.holds-at-none
    (subst (λ (o : Option Mode). Changes old old c.args.t.now c.args.r.now o) (sym gone) (changes_nothing old c.args.t.now c.args.r.now none) u q)

pub lower-requires : goal.lower-requires
lower-requires c = record {
  weaker = subst (λ (o : Option Mode). IsNoStronger c.args.to o)
      (sym (ap (λ (o : Option Modes). mode_among o c.args.t.now) (c.in-Some.ensures.value ∙ look-rid c.args.r.now c.args.records.now.entries))) c.requires.weaker;
}

pub returns-then-is_empty : goal.returns-then-is_empty
returns-then-is_empty c =
    let w = c.lower.new.self in
    let old = c.args.records.now.entries in
    let P : Option Modes → Type 0 = λ o. IsSome o in
    let had : (u : TxnId) → mode_of c.in-Some.holders.now u ≡ held_in old u c.args.r.now = λ u. ap (λ (o : Option Modes). mode_among o u) (c.in-Some.ensures.value ∙ look-rid c.args.r.now old) in
    changes old c.remove.new.self.entries c.args.t.now c.args.r.now None c.args.to
    (put_then_remove old (c.get_mut.follows.lender w).entries c.remove.new.self.entries c.args.r.now (Some w)
    (λ q. put-rid c.args.r.now q (Some w) old (c.get_mut.follows.lender w).entries (((c.get_mut.follows.holds w).3 (subst P c.in-Some.ensures.value refl)).0 q))
    (λ q. put-rid c.args.r.now q None (c.get_mut.follows.lender w).entries c.remove.new.self.entries (c.remove.ensures.updates.0 q)))
    (λ u. sym (ap (λ (h : Modes). mode_of h u) (c.if-is_empty.ensures.0 refl)) ∙ c.lower.ensures u ∙ ap (λ (m : Option Mode). cond {A = Option Mode} (same_txn c.args.t.now u) c.args.to m) (had u))

pub returns-else-is_empty : goal.returns-else-is_empty
returns-else-is_empty c =
    let w = c.lower.new.self in
    let old = c.args.records.now.entries in
    let P : Option Modes → Type 0 = λ o. IsSome o in
    let had : (u : TxnId) → mode_of c.in-Some.holders.now u ≡ held_in old u c.args.r.now = λ u. ap (λ (o : Option Modes). mode_among o u) (c.in-Some.ensures.value ∙ look-rid c.args.r.now old) in
    changes old (c.get_mut.follows.lender w).entries c.args.t.now c.args.r.now (Some w) c.args.to
    (λ q. put-rid c.args.r.now q (Some w) old (c.get_mut.follows.lender w).entries (((c.get_mut.follows.holds w).3 (subst P c.in-Some.ensures.value refl)).0 q))
    (λ u. c.lower.ensures u ∙ ap (λ (m : Option Mode). cond {A = Option Mode} (same_txn c.args.t.now u) c.args.to m) (had u))
