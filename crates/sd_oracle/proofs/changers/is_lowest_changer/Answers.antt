use Rattle.std.proofs.Common.{refl}
use Rattle.sd_base.specs.declared.ids.TxnId.{TxnId}
use Rattle.sd_oracle.specs.declared.standing.Standing.{Standing}
use Rattle.sd_model.specs.Applies.{Changes}
use Rattle.sd_base.specs.Ids.{IsBelow}
use Rattle.sd_oracle.specs.Lists.{meaning}
use Rattle.sd_oracle.proofs.Search.{any-step, any-stop, part-any, not_true, changes-there}
use Rattle.sd_oracle.proofs.changers.is_lowest_changer.Goals as goal

pub loop-txn-init : goal.loop-txn-init
loop-txn-init c = λ h. part-any (λ (t : TxnId). Changes (meaning c.args.lists.now) t c.args.page × IsBelow t c.args.by.now) c.args.lists.now.parts.items h.0 (changes-there (meaning c.args.lists.now) h.0 c.args.page h.1.0) h.1

pub loop-txn-preserved : goal.loop-txn-preserved
loop-txn-preserved c = λ h. any-step (λ (x : TxnId × Standing). Changes (meaning c.args.lists.now) x.0 c.args.page × IsBelow x.0 c.args.by.now) c.args.lists.now.parts.items c.deref-txn-items.result.now c.loop-txn.txn-index c.loop-txn-item.result
    c.deref-txn-items.ensures.value c.loop-txn-test.true c.loop-txn-item.is (λ p. not_true (c.if-undercuts.ensures.1 p)) (c.loop-txn.invariant h)

pub returns-then-undercuts : goal.returns-then-undercuts
returns-then-undercuts c = (λ f. absurd (not_true f), λ h. let u = c.if-undercuts.ensures.0 refl in absurd (h.1 c.loop-txn-item.result.0 u.0 u.1))

pub returns : goal.returns
returns c = (
  λ f. (
    c.if-not-changes.ensures.0 refl,
    λ t changes below. any-stop (λ (x : TxnId × Standing). Changes (meaning c.args.lists.now) x.0 c.args.page × IsBelow x.0 c.args.by.now) c.args.lists.now.parts.items
        c.deref-txn-items.result.now c.loop-txn.txn-index c.deref-txn-items.ensures.value c.loop-txn-test.false c.loop-txn.auto.txn-index-end (c.loop-txn.invariant (t, (changes, below))),
  ),
  λ h. refl,
)
