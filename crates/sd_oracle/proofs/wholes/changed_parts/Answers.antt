use Rattle.sd_oracle.specs.Wholes.{changed_part}
use Rattle.sd_oracle.proofs.OneByOne.{parts-next}
use Rattle.sd_oracle.proofs.wholes.changed_parts.Goals as goal

pub loop-txn-preserved : goal.loop-txn-preserved
loop-txn-preserved c = parts-next (changed_part c.args.change.now) c.args.parts.now c.loop-txn.all.items c.push.new.self.items c.loop-txn.txn-index c.loop-txn-item.result c.in_ok-changed.changed
    c.loop-txn-test.true c.loop-txn-item.is c.in_ok-changed.ensures c.in_ok-push.ensures.items c.loop-txn.invariant
