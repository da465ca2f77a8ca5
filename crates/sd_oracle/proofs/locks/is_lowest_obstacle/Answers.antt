use Rattle.std.proofs.Common.{refl}
use Rattle.sd_base.specs.declared.ids.TxnId.{TxnId}
use Rattle.sd_base.specs.Ids.{IsBelow}
use Rattle.sd_oracle.specs.declared.standing.Standing.{Standing}
use Rattle.sd_oracle.specs.Lists.{meaning}
use Rattle.sd_oracle.specs.Claimers.{Obstructs}
use Rattle.sd_oracle.proofs.Search.{any-step, any-stop, part-any, not_true, clash-there}
use Rattle.sd_oracle.proofs.locks.is_lowest_obstacle.Goals as goal

pub loop-other-init : goal.loop-other-init
loop-other-init c = λ h. part-any (λ (u : TxnId). Obstructs (meaning c.args.lists.now) c.args.txn.now c.args.rid.now c.args.mode u × IsBelow u c.args.by.now) c.args.lists.now.parts.items h.0
    (clash-there (meaning c.args.lists.now) h.0 c.args.rid.now c.args.mode h.1.0.1) h.1

pub loop-other-preserved : goal.loop-other-preserved
loop-other-preserved c = λ h. any-step (λ (x : TxnId × Standing). Obstructs (meaning c.args.lists.now) c.args.txn.now c.args.rid.now c.args.mode x.0 × IsBelow x.0 c.args.by.now) c.args.lists.now.parts.items
    c.deref-other-items.result.now c.loop-other.other-index c.loop-other-item.result
    c.deref-other-items.ensures.value c.loop-other-test.true c.loop-other-item.is (λ p. not_true (c.if-goes_before.ensures.1 p)) (c.loop-other.invariant h)

pub returns-then-goes_before : goal.returns-then-goes_before
returns-then-goes_before c = (λ f. absurd (not_true f), λ h. let u = c.if-goes_before.ensures.0 refl in absurd (h.1 c.loop-other-item.result.0 u.0 u.1))

pub returns : goal.returns
returns c = (
  λ f. (
    c.if-not-conflicts.ensures.0 refl,
    λ u obstructs below. any-stop (λ (x : TxnId × Standing). Obstructs (meaning c.args.lists.now) c.args.txn.now c.args.rid.now c.args.mode x.0 × IsBelow x.0 c.args.by.now) c.args.lists.now.parts.items
        c.deref-other-items.result.now c.loop-other.other-index c.deref-other-items.ensures.value c.loop-other-test.false c.loop-other.auto.other-index-end (c.loop-other.invariant (u, (obstructs, below))),
  ),
  λ h. refl,
)
