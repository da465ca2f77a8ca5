use Rattle.std.proofs.Common.{◌≢◌}
use Rattle.sd_base.specs.declared.ids.TxnId.{TxnId}
use Rattle.sd_oracle.specs.declared.standing.Standing.{Standing}
use Rattle.sd_model.specs.Claims.{Clash}
use Rattle.sd_oracle.specs.Lists.{meaning}
use Rattle.sd_oracle.proofs.Search.{any-step, any-stop, part-any, not_true, clash-there}
use Rattle.sd_oracle.proofs.locks.locked.Goals as goal

pub loop-other-init : goal.loop-other-init
loop-other-init c = λ h. part-any (λ (u : TxnId). (c.args.txn.now ≢ u) × Clash c.args.mode (((meaning c.args.lists.now).part u).claims c.args.rid.now)) c.args.lists.now.parts.items h.0
    (clash-there (meaning c.args.lists.now) h.0 c.args.rid.now c.args.mode h.2) (h.1, h.2)

pub loop-other-preserved : goal.loop-other-preserved
loop-other-preserved c = λ h. any-step (λ (x : TxnId × Standing). (c.args.txn.now ≢ x.0) × Clash c.args.mode (((meaning c.args.lists.now).part x.0).claims c.args.rid.now)) c.args.lists.now.parts.items
    c.deref-other-items.result.now c.loop-other.other-index c.loop-other-item.result
    c.deref-other-items.ensures.value c.loop-other-test.true c.loop-other-item.is (λ p. not_true (c.if-conflicts.ensures.1 p)) (c.loop-other.invariant h)

pub returns : goal.returns
returns c = (
  λ f. absurd (not_true f),
  λ h. absurd (any-stop (λ (x : TxnId × Standing). (c.args.txn.now ≢ x.0) × Clash c.args.mode (((meaning c.args.lists.now).part x.0).claims c.args.rid.now)) c.args.lists.now.parts.items
      c.deref-other-items.result.now c.loop-other.other-index c.deref-other-items.ensures.value c.loop-other-test.false c.loop-other.auto.other-index-end (c.loop-other.invariant h)),
)
