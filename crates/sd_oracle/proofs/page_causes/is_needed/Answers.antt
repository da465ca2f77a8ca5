use Rattle.sd_base.specs.declared.ids.TxnId.{TxnId}
use Rattle.sd_oracle.specs.declared.standing.Standing.{Standing}
use Rattle.sd_model.specs.Applies.{Needs}
use Rattle.sd_oracle.specs.Lists.{meaning}
use Rattle.sd_oracle.proofs.Search.{any-step, any-stop, part-any, not_true, changes-there}
use Rattle.sd_oracle.proofs.page_causes.is_needed.Goals as goal

pub loop-txn-init : goal.loop-txn-init
loop-txn-init c = λ h. part-any (λ (t : TxnId). Needs (meaning c.args.lists.now) t c.args.inst) c.args.lists.now.parts.items h.0 (changes-there (meaning c.args.lists.now) h.0 h.1.2.0 h.1.2.1) h.1

pub loop-txn-preserved : goal.loop-txn-preserved
loop-txn-preserved c = λ h. any-step (λ (x : TxnId × Standing). Needs (meaning c.args.lists.now) x.0 c.args.inst) c.args.lists.now.parts.items c.deref-txn-items.result.now c.loop-txn.txn-index c.loop-txn-item.result
    c.deref-txn-items.ensures.value c.loop-txn-test.true c.loop-txn-item.is (λ p. not_true (c.if-needs.ensures.1 p)) (c.loop-txn.invariant h)

pub returns : goal.returns
returns c = (
  λ f. absurd (not_true f),
  λ h. absurd (any-stop (λ (x : TxnId × Standing). Needs (meaning c.args.lists.now) x.0 c.args.inst) c.args.lists.now.parts.items c.deref-txn-items.result.now c.loop-txn.txn-index
      c.deref-txn-items.ensures.value c.loop-txn-test.false c.loop-txn.auto.txn-index-end (c.loop-txn.invariant h)),
)
