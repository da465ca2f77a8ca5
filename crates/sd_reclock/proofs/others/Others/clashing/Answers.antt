use Rattle.std.proofs.Common.{refl, sym, subst}
use Rattle.std.proofs.lemmas.Bool.{true≢false}
use Rattle.sd_base.specs.Ids.{same_txn}
use Rattle.sd_reclock.specs.Locks.{Modes, ClashesIn}
use Rattle.sd_reclock.specs.Reaching.{AreThose}
use Rattle.sd_reclock.proofs.Clashing.{IsGathered, gathered_none, gathered_more, gathered_past, gathered_all, apart_by, same_by}
use Rattle.sd_reclock.proofs.others.Others.clashing.Goals as goal
use Rattle.sd_reclock.proofs.others.Others.clashing.Goals.{else-ne-via-then-ne+else-clashes, else-ne-via-else-ne}

pub loop-t-init : goal.loop-t-init
loop-t-init c = (tt, tt, rw c.new-all.ensures.items (gathered_none c.args.not.now c.args.mode c.into_iter-t-iterator.result))

pub loop-t-preserved-then-clashes : goal.loop-t-preserved-then-clashes
unfolding same_txn
loop-t-preserved-then-clashes c = (
  tt,
  tt,
  rw c.in_ok-push.ensures.items
      (gathered_more c.args.not.now c.args.mode c.into_iter-t-iterator.result c.loop-t.t-iterator c.next.new.self (c.in-Some.t.now, c.in-Some.held.now) c.loop-t.all.items c.in-Some.ensures.steps
      (apart_by c.args.not.now c.in-Some.t.now (sym c.if-ne.ensures), c.if-clashes.ensures.0 refl) c.loop-t.invariant.2),
)

pub loop-t-preserved : goal.loop-t-preserved
unfolding same_txn
loop-t-preserved c = elim c.else-ne.branch [
  | else-ne-via-then-ne+else-clashes w ↦ (
    tt,
    tt,
    gathered_past c.args.not.now c.args.mode c.into_iter-t-iterator.result c.loop-t.t-iterator c.next.new.self (c.in-Some.t.now, c.in-Some.held.now) c.loop-t.all.items c.in-Some.ensures.steps
        (λ h. true≢false (sym (w.if-clashes.ensures.1 h.1))) c.loop-t.invariant.2,
  )
  | else-ne-via-else-ne w ↦ (
    tt,
    tt,
    gathered_past c.args.not.now c.args.mode c.into_iter-t-iterator.result c.loop-t.t-iterator c.next.new.self (c.in-Some.t.now, c.in-Some.held.now) c.loop-t.all.items c.in-Some.ensures.steps
        (λ h. h.0 (same_by c.args.not.now c.in-Some.t.now (sym w.if-ne.ensures))) c.loop-t.invariant.2,
  )
]

pub returns : goal.returns
returns c =
    let given = c.into_iter-t-iterator.ensures.into_iter_gives in
    let so_far = subst (λ (rows : Modes). IsGathered c.args.not.now c.args.mode rows c.loop-t.t-iterator c.loop-t.all.items) given.0 c.loop-t.invariant.2 in
    subst (λ (rows : Modes). AreThose (ClashesIn rows c.args.not.now c.args.mode) c.loop-t.all.items) c.self.view_is
    (gathered_all c.args.not.now c.args.mode c.self.inside.modes.entries c.loop-t.t-iterator c.loop-t.all.items c.in-None.ensures.steps.0 given.6 so_far)
