use Rattle.sd_base.specs.declared.ids.TxnId.{TxnId}
use Rattle.sd_model.specs.declared.act.Claim.TheVariants.{Excl}
use Rattle.sd_oracle.specs.declared.standing.Standing.{Standing}
use Rattle.sd_oracle.specs.Claimers.{ClaimsSlot}
use Rattle.sd_oracle.specs.Lists.{meaning}
use Rattle.sd_oracle.proofs.Search.{any-step, any-stop, part-any, not_true, clash-there}
use Rattle.sd_oracle.proofs.slots.has_claimed_slot.Goals as goal

pub loop-other-init : goal.loop-other-init
loop-other-init c = λ h. part-any (λ (u : TxnId). ClaimsSlot (meaning c.args.lists.now) c.args.txn.now c.args.page u) c.args.lists.now.parts.items h.0
    (clash-there (meaning c.args.lists.now) h.0 (record { page = c.args.page; slot = h.1.0 }) Excl h.1.2.1) h.1

pub loop-other-preserved : goal.loop-other-preserved
loop-other-preserved c = λ h. any-step (λ (x : TxnId × Standing). ClaimsSlot (meaning c.args.lists.now) c.args.txn.now c.args.page x.0) c.args.lists.now.parts.items
    c.deref-other-items.result.now c.loop-other.other-index c.loop-other-item.result
    c.deref-other-items.ensures.value c.loop-other-test.true c.loop-other-item.is (λ p. not_true (c.if-claims_slot.ensures.1 p)) (c.loop-other.invariant h)

pub returns : goal.returns
returns c = (
  λ f. absurd (not_true f),
  λ h. absurd (any-stop (λ (x : TxnId × Standing). ClaimsSlot (meaning c.args.lists.now) c.args.txn.now c.args.page x.0) c.args.lists.now.parts.items
      c.deref-other-items.result.now c.loop-other.other-index c.deref-other-items.ensures.value c.loop-other-test.false c.loop-other.auto.other-index-end (c.loop-other.invariant h)),
)
