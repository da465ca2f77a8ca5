use Rattle.std.proofs.Common.{◌≡◌, List, ap, subst}
use Rattle.std.proofs.lemmas.List.{take_all}
use Rattle.sd_base.specs.declared.ids.TxnId.{TxnId}
use Rattle.sd_oracle.specs.Lists.{part_in}
use Rattle.sd_oracle.specs.declared.standing.Standing.{Standing}
use Rattle.sd_oracle.specs.Outcomes.{left_part}
use Rattle.sd_oracle.proofs.OneByOne.{parts-next}
use Rattle.sd_oracle.proofs.reopenings.left_parts.Goals as goal

pub loop-txn-preserved : goal.loop-txn-preserved
loop-txn-preserved c = parts-next (left_part c.args.outcome.now) c.args.parts.now c.loop-txn.all.items c.push.new.self.items c.loop-txn.txn-index c.loop-txn-item.result c.in_ok-left.left
    c.loop-txn-test.true c.loop-txn-item.is c.in_ok-left.ensures c.in_ok-push.ensures.items c.loop-txn.invariant

pub loop-txn-init : goal.loop-txn-init
loop-txn-init c = λ t. ap (λ (l : List (TxnId × Standing)). part_in l t) c.in_ok-all.ensures.items

pub returns : goal.returns
returns c = subst (λ (l : List (TxnId × Standing)). (t : TxnId) → part_in c.loop-txn.all.items t ≡ left_part c.args.outcome.now t (part_in l t)) (take_all c.loop-txn.txn-index c.args.parts.now c.loop-txn-test.false) c.loop-txn.invariant
